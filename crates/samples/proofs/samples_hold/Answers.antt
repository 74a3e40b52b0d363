use Rattle.std.proofs.Common.{[], ◌∷◌, refl, arith, rules}
use Rattle.amounts.specs.Rows.{single, joined, plus, minus, times, none}
use Rattle.amounts.specs.Singles.{minus-single}
use Rattle.books.specs.Formula as formula
use Rattle.books.specs.Meaning.{step}
use Rattle.optimum.specs.Prices.{worth}
use Rattle.optimum.specs.Rotation.{reached, earliest, latest, put, spent}
use Rattle.states.specs.Costs.{flown}
use Rattle.register.specs.Register.{blank, after, legwise}
use Rattle.register.specs.declared.call.Call.TheVariants.{Open, Window, Total}
use Rattle.samples.specs.Samples.{leg, G, priced, three, two, two_shut, two_longer, two_prices}
use Rattle.samples.proofs.Trials.{every, rule_tested}
use Rattle.samples.proofs.Ways.{ways}
use Rattle.samples.proofs.Rotations.{number_test, number_tested, kilograms_by, cents_by, impossible_by}
use Rattle.samples.proofs.samples_hold.Goals as goal

pub returns : goal.returns
unfolding every ways reached earliest latest put legwise spent plus minus times single joined none worth step formula.kilograms
returns c =
    record {
      one_leg = kilograms_by 1 blank (Open 60) _ _ 0 (λ areas long. search rules) tt ((refl, refl), tt) refl;
      one_leg_late = impossible_by (G 1) blank (Open 71) 0 (λ i. 0) (λ areas long. search rules) tt (omega arith) refl (λ x keeps. omega (arith, keeps.bounds 1 (omega arith) (omega arith), keeps.windows 1 (omega arith) (omega arith)));
      three_legs = kilograms_by 3 blank (Open 174) _ _ 12 (λ areas long. search rules) tt ((refl, refl), tt) refl;
      shut_at_105 = kilograms_by 3 three (Window 2 100 105) _ _ 194 (λ areas long. search rules) tt ((refl, refl), ((refl, refl), tt)) refl;
      shut_at_104 = kilograms_by 3 three (Window 2 100 104) _ _ 228 (λ areas long. search rules) tt ((refl, refl), tt) refl;
      shut_at_103 = impossible_by (G 3) three (Window 2 100 103) 2 (λ i. 50) (λ areas long. search rules) tt (omega arith) refl (λ x keeps. omega (arith, keeps.bounds 3 (omega arith) (omega arith), keeps.windows 2 (omega arith) (omega arith), keeps.windows 3 (omega arith) (omega arith)));
      two_legs = kilograms_by 2 blank (Open 120) _ _ 0 (λ areas long. search rules) tt ((refl, refl), tt) refl;
      shut_at_61 = kilograms_by 2 two (Window 1 50 61) _ _ 0 (λ areas long. search rules) tt ((refl, refl), tt) refl;
      longer = kilograms_by 2 two_shut (Total 125) _ _ 17 (λ areas long. search rules) tt ((refl, refl), tt) refl;
      price_1 = minus-single (formula.kilograms (leg 1) 61) (formula.kilograms (leg 1) 60);
      price_7 = minus-single (formula.kilograms (leg 1) 64) (formula.kilograms (leg 1) 63);
      prices = rule_tested number_test (G 2) (after (G 2) two_shut (Total 125)) (flown (61 ∷ 64 ∷ [])) (priced two_prices) number_tested.sound refl;
      too_early = impossible_by (G 2) two_longer (Window 1 10 20) 0 (λ i. 0) (λ areas long. search rules) tt (omega arith) refl (λ x keeps. omega (arith, keeps.bounds 1 (omega arith) (omega arith), keeps.windows 1 (omega arith) (omega arith)));
      cents_alone = cents_by 0 blank (Open 120) _ 0 290 (λ areas long. search rules) tt refl refl refl refl;
      cents_second = cents_by 1 blank (Open 120) _ 0 300 (λ areas long. search rules) tt refl refl refl refl;
    }
