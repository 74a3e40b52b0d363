-- What a call names.
-- Assumes nothing.
use Rattle.std.specs.Prelude.{ℕ}
use Rattle.register.specs.declared.call.Call.{Call}
use Rattle.register.specs.declared.call.Call.TheVariants.{Open, Bounds, Window, Lift, Total, Close}

-- the leg or stop that a call names, 0 if it names none
abbrev pub named : Call → ℕ
named (Open total) = 0
named (Bounds leg low high) = leg
named (Window stop low high) = stop
named (Lift stop) = stop
named (Total total) = 0
named Close = 0
