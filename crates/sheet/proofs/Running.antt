-- Lists of calls, one call after the other, and that the register's answer is one. Assumes nothing.
use Rattle.std.proofs.Common.{◌≡◌, ℕ, ◌+◌, ◌<◌, ◌≤◌, min, List, [], ◌∷◌, ◌++◌, map, length, get_or, take, drop, set, Option, Result, sym, refl, ap, ◌∙◌, subst, subst₂, arith}
use Rattle.std.proofs.lemmas.List.{length-take, take_more_set, drop-drop, drop-set-lt, map_more, map_push}
use Rattle.amounts.specs.Rows.{Row}
use Rattle.amounts.specs.Orders.{Order}
use Rattle.board.proofs.Boards.{broken_one, broken_clear}
use Rattle.books.specs.Meaning.{Meaning}
use Rattle.optimum.proofs.Certificate.{same_cost}
use Rattle.register.specs.Register.{Register, blank, board, Reply, refused, granted, closed, Answered, Run, stop, step}
use Rattle.register.specs.declared.areas.Areas.{Areas}
use Rattle.register.specs.Replies.{reply}
use Rattle.sheet.specs.Runs.{told_of, fed, OneAnswer}
use Rattle.states.specs.States.{reading, Sound, Carried}
use Rattle.register.specs.declared.call.Call.{Call}
use Rattle.sheet.specs.declared.calls.Asked.{Asked}
use Rattle.register.specs.declared.fault.SheetFault.{SheetFault}
use Rattle.states.specs.declared.state.State.{State}

-- one call more at the end
pub run_push : {b : Meaning} {le : Row → Row → Type 0} {r r' r'' : Register} {calls : List (Call × Areas)} {replies : List Reply} {call : Call} {areas : Areas} {reply : Reply} → Run b le r calls replies r' → Answered b le r' call areas reply r'' → Run b le r (calls ++ (call, areas) ∷ []) (replies ++ reply ∷ []) r''
run_push stop last = step last stop
run_push (step first rest) last = step first (run_push rest last)

-- ---- the answer is one

module _ {places : ℕ} {le : Row → Row → Type 0} (order : Order places le) (b : Meaning) where
  pub one_answer : OneAnswer b le places
  one_answer r r' r'' call areas (refused p) (refused q) one other = (broken_one (board b r call areas) p q one.answer.0 other.answer.0, one.answer.1 ∙ sym other.answer.1)
  one_answer r r' r'' call areas (refused p) (granted cost) one other = absurd (broken_clear (board b r call areas) p one.answer.0 other.answer.0)
  one_answer r r' r'' call areas (refused p) closed one other = absurd (broken_clear (board b r call areas) p one.answer.0 other.answer.0)
  one_answer r r' r'' call areas (granted cost) (refused q) one other = absurd (broken_clear (board b r call areas) q other.answer.0 one.answer.0)
  one_answer r r' r'' call areas (granted cost) (granted cost') one other =
      let mine = one.answer.3 in
      let yours = other.answer.3 in
      (λ k within. ap (λ row. row k) mine.2 ∙ same_cost order mine.1 yours.1 k within ∙ sym (ap (λ row. row k) yours.2), one.answer.2 ∙ sym other.answer.2)
  one_answer r r' r'' call areas (granted cost) closed one other = absurd (other.answer.1 one.answer.1)
  one_answer r r' r'' call areas closed (refused q) one other = absurd (broken_clear (board b r call areas) q other.answer.0 one.answer.0)
  one_answer r r' r'' call areas closed (granted cost) one other = absurd (one.answer.1 other.answer.1)
  one_answer r r' r'' call areas closed closed one other = (tt, one.answer.2 ∙ sym other.answer.2)

-- as many places as were asked for, as far as the area reaches
pub cut_length : {A : Type 0} (n m size : ℕ) (xs : List A) → m ≡ min n (length xs) → length xs ≡ size → length (take m xs) ≡ min n size
cut_length n m size xs cut same = simp length-take (omega arith)

-- ---- the loop over the calls

module _ {K A : Type 0} (meaning : K → Meaning) (le : Row → Row → Type 0) (row : A → Row) (room : Areas) (calls : List Asked) (before : List (Result (Option A) SheetFault)) (book : K) where
  -- after i calls the sheet is over k and holds st, and these are the answers in their places
  pub record Going (i : ℕ) (k : K) (st : State) (answers : List (Result (Option A) SheetFault)) : Type 0 where
    pub within : i ≤ length calls
    pub over : k ≡ book
    pub sound : Sound (meaning book) le st
    pub run : Run (meaning book) le blank (fed room (take i calls)) (map (reply row) (take i answers)) (reading st)
    pub rest : drop i answers ≡ drop i before

module _ {K A : Type 0} {meaning : K → Meaning} {le : Row → Row → Type 0} {row : A → Row} {room : Areas} {calls : List Asked} {before : List (Result (Option A) SheetFault)} {book : K} where
  pub going_from : (k : K) (st : State) → k ≡ book → reading st ≡ blank → Sound (meaning book) le st → Going meaning le row room calls before book 0 k st before
  going_from k st over empty sound =
      record { within = omega arith; over = over; sound = sound; run = subst (λ r. Run (meaning book) le blank [] [] r) (sym empty) stop; rest = refl }

  -- one call more
  pub going_on : (i : ℕ) (k k' : K) (old new : State) (answers : List (Result (Option A) SheetFault)) (asked : Asked) (areas : Areas) (x : Result (Option A) SheetFault) → Going meaning le row room calls before book i k old answers → i < length calls → i < length answers → asked ≡ get_or calls i asked → areas ≡ (told_of room asked).1 → k' ≡ k → Carried (meaning k) le old asked.call areas (reply row x) new → Going meaning le row room calls before book (i + 1) k' new (set answers i x)
  going_on i k k' old new answers asked areas x going more place here lent kept carried =
      let turn = subst (λ h. Carried (meaning h) le old asked.call areas (reply row x) new) going.over carried in
      record {
        within = omega arith;
        over = kept ∙ going.over;
        sound = turn.sound going.sound;
        run =
            subst₂ (λ fs rs. Run (meaning book) le blank fs rs (reading new))
            (ap (λ q. fed room (take i calls) ++ (asked.call, q) ∷ []) lent ∙ ap (λ a. fed room (take i calls) ++ told_of room a ∷ []) here ∙ sym (map_more (told_of room) calls i asked more))
            (sym (map_push (reply row) (take i answers) x) ∙ ap (map (reply row)) (sym (take_more_set answers i x place)))
            (run_push going.run (turn.answered going.sound));
        rest = drop-set-lt (i + 1) answers i x (omega arith) ∙ sym (drop-drop 1 i answers) ∙ ap (drop 1) going.rest ∙ drop-drop 1 i before;
      }
