use Rattle.std.proofs.Common.{◌≡◌, ℕ, List, [], ◌++◌, take, Option, Some, None, IfSome, ap, ◌∙◌}
use Rattle.std.specs.Option.{option_map}
use Rattle.lines.proofs.input.read_start.Goals as goal

taken : (known : Option (List ℕ)) (text before : List ℕ) (n : ℕ) → before ≡ [] →
    IfSome (option_map (take n) known) (λ xs. text ≡ before ++ xs) → IfSome known (λ xs. text ≡ take n xs)
taken None text before n none read = tt
taken (Some xs) text before n none read = read ∙ ap (λ b. b ++ take n xs) none

pub returns-in-Ok : goal.returns-in-Ok
returns-in-Ok g c =
    taken (g.R.Read.remaining c.args.input) _ _ 65535 c.new-text.ensures.items
    (simp (c.take.ensures.limit, c.take.ensures.inner) at c.in-Ok.ensures.bytes)
