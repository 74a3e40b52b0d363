-- Calls and refusals of the frame layer in words.
-- Assumes nothing.
use Rattle.std.specs.Prelude.{ℕ, List, ◌++◌, codes, decimal}
use Rattle.std.specs.Fmt.{signed_decimal}
use Rattle.frames.specs.declared.calls.Call.{Call}
use Rattle.frames.specs.declared.calls.Call.TheVariants.{Open, Bounds, Window, Lift, Total, Close, AddLeg, SetRate}
use Rattle.frames.specs.declared.faults.FrameFault.{FrameFault}
use Rattle.frames.specs.declared.faults.FrameFault.TheVariants.{Malformed, UnknownKind, WrongLength, TooLate}

-- a call in words, with its numbers
abbrev pub words_of_call : Call → List ℕ
words_of_call (Open total) = codes "open with a total of " ++ (decimal total ++ codes " minutes")
words_of_call (Bounds leg low high) = codes "bounds of leg " ++ (decimal leg ++ (codes " from " ++ (decimal low ++ (codes " to " ++ (decimal high ++ codes " minutes")))))
words_of_call (Window stop low high) = codes "window at stop " ++ (decimal stop ++ (codes " from " ++ (decimal low ++ (codes " to " ++ (decimal high ++ codes " minutes")))))
words_of_call (Lift stop) = codes "lift of the window at stop " ++ decimal stop
words_of_call (Total total) = codes "total of " ++ (decimal total ++ codes " minutes")
words_of_call Close = codes "close"
words_of_call (AddLeg q t r lo hi) = codes "formula leg with q " ++ (decimal q ++ (codes ", t " ++ (decimal t ++ (codes ", r " ++ (signed_decimal r ++ (codes ", from " ++ (decimal lo ++ (codes " to " ++ (decimal hi ++ codes " minutes")))))))))
words_of_call (SetRate leg rate) = codes "rate of leg " ++ (decimal leg ++ (codes " set to " ++ (decimal rate ++ codes " cents a minute")))

-- a refusal in words
abbrev pub words_of_fault : FrameFault → List ℕ
words_of_fault Malformed = codes "not a line of 1 to 32 bytes in capital hexadecimal"
words_of_fault UnknownKind = codes "no call has this kind"
words_of_fault WrongLength = codes "wrong length for its kind"
words_of_fault TooLate = codes "a leg or a rate after a call of the sheet"
