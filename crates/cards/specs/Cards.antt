-- What heads and cards mean together, and the board that they are loaded by.
-- Assumes nothing.
use Rattle.std.specs.Prelude.{◌≡◌, ℕ, ◌+◌, ◌-◌, ◌^◌, ◌<◌, ◌≤◌, ◌⊎◌, List, [], ◌∷◌, ◌++◌, length, take, drop, ℤ, pos, ◌-ℤ◌, neg_ℤ, ◌<ℤ◌, IfSome, sum_by, slice_index_or}
use Rattle.amounts.specs.Rows.{single}
use Rattle.board.specs.Rules.{Rule, whole, each}
use Rattle.books.specs.Meaning.{Meaning}
use Rattle.books.specs.Faults.{row, told, middle}
use Rattle.books.specs.declared.fault.BookFault.{BookFault}
use Rattle.cards.specs.declared.head.Head.{Head}

-- the head of leg i; legs are numbered from 1
abbrev pub head : List Head → ℕ → Head
head heads i = slice_index_or heads (i - 1) (record { first = 0; count = 0 })

-- how many cards stand before those of leg i: the counts of the legs before it, added up
abbrev pub offset : List Head → ℕ → ℕ
offset heads i = sum_by (λ h. h.count) (take (i - 1) heads)

-- the last minute of a leg: a leg of count costs has one for each minute from its first on
abbrev pub last_minute_of : Head → ℕ
last_minute_of h = h.first + h.count - 1

-- the costs of leg i: its own part of the cards
abbrev pub costs_of : List Head → List ℤ → ℕ → List ℤ
costs_of heads cards i = take (head heads i).count (drop (offset heads i) cards)

-- the card of m minutes on leg i
abbrev pub card_at : List Head → List ℤ → ℕ → ℕ → ℤ
card_at heads cards i m = slice_index_or (costs_of heads cards i) (m - (head heads i).first) (pos 0)

-- the book of these heads and cards: the cost of m minutes on leg i is the card itself
abbrev pub book_of : List Head → List ℤ → Meaning
book_of heads cards = record {
  legs = length heads;
  lo = λ i. (head heads i).first;
  hi = λ i. last_minute_of (head heads i);
  cost = λ i m. single (card_at heads cards i m);
}

-- i is a leg
abbrev pub Leg : List Head → ℕ → Type 0
Leg heads i = (1 ≤ i) × (i ≤ length heads)

-- no leg is so
abbrev pub NoneIs : (ℕ → Type 0) → Type 0
NoneIs is = (i : ℕ) → is i → ⊥

-- i is so, and none below it is
abbrev pub Lowest : (ℕ → Type 0) → ℕ → Type 0
Lowest is i = is i × ((j : ℕ) → j < i → is j → ⊥)

-- the head of leg i has no cost at all, goes past minute 4,095, or lacks cards
abbrev pub BadHead : List Head → List ℤ → ℕ → Type 0
BadHead heads cards i = ((head heads i).count ≡ 0) ⊎ (4095 < last_minute_of (head heads i)) ⊎ (length cards < offset heads i + (head heads i).count)

-- leg i has such a head
abbrev pub Malformed : List Head → List ℤ → ℕ → Type 0
Malformed heads cards i = Leg heads i × BadHead heads cards i

-- there are more cards than the legs count
abbrev pub LeftOver : List Head → List ℤ → Type 0
LeftOver heads cards = offset heads (length heads + 1) < length cards

-- a cost beyond 2^40 on either side
abbrev pub Large : ℤ → Type 0
Large c = (c <ℤ neg_ℤ (pos (2 ^ 40))) ⊎ (pos (2 ^ 40) <ℤ c)

-- some cost is too large
abbrev pub SomeLarge : List ℤ → Type 0
SomeLarge costs = (j : ℕ) × (j < length costs) × Large (slice_index_or costs j (pos 0))

-- leg i has a cost that is too large
abbrev pub TooLarge : List Head → List ℤ → ℕ → Type 0
TooLarge heads cards i = Leg heads i × SomeLarge (costs_of heads cards i)

-- three costs in a row begin at place j, and the second of their steps is less than the first
abbrev pub Drops : List ℤ → ℕ → Type 0
Drops costs j = (j + 2 < length costs) × ((slice_index_or costs (j + 2) (pos 0) -ℤ slice_index_or costs (j + 1) (pos 0)) <ℤ (slice_index_or costs (j + 1) (pos 0) -ℤ slice_index_or costs j (pos 0)))

-- leg i breaks the step law
abbrev pub Falling : List Head → List ℤ → ℕ → Type 0
Falling heads cards i = Leg heads i × ((j : ℕ) × Drops (costs_of heads cards i) j)

-- the rows on legs and how many cards they have: too many legs, told as leg 65; a malformed leg; cards left over, told as
-- the leg after the last
abbrev pub shape_rules : List Head → List ℤ → List Rule
shape_rules heads cards =
    whole (64 < length heads) (row 5 65)
    ∷ each (Malformed heads cards) (row 6)
    ∷ whole (LeftOver heads cards) (row 6 (length heads + 1))
    ∷ []

-- the rows on the cards themselves: their range, and the step law
abbrev pub cost_rules : List Head → List ℤ → List Rule
cost_rules heads cards = each (TooLarge heads cards) (row 7) ∷ each (Falling heads cards) (row 8) ∷ []

-- the board of loading
abbrev pub board : List Head → List ℤ → List Rule
board heads cards = shape_rules heads cards ++ cost_rules heads cards

-- minute m of leg i is the lowest that is the middle one of three whose steps fall
abbrev pub LowestMiddle : List Head → List ℤ → ℕ → ℕ → Type 0
LowestMiddle heads cards i m =
    (j : ℕ) × Drops (costs_of heads cards i) j × ((k : ℕ) → k < j → Drops (costs_of heads cards i) k → ⊥) × (m ≡ (head heads i).first + j + 1)

-- a refusal that tells a minute tells the lowest one of its leg
abbrev pub TellsLowest : List Head → List ℤ → BookFault → Type 0
TellsLowest heads cards f = IfSome (middle f) (λ m. LowestMiddle heads cards (told f).leg m)
