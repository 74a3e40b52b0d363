-- What the call of a line asks for.
-- Assumes nothing.
use Rattle.frames.specs.declared.calls.Call.{Call}
use Rattle.frames.specs.declared.calls.Call.TheVariants.{Open, Bounds, Window, Lift, Total, Close, AddLeg, SetRate}
use Rattle.register.specs.declared.call.Call.TheVariants as sheet
use Rattle.protocol.specs.declared.request.Entry.TheVariants.{Leg, Rate}
use Rattle.protocol.specs.declared.request.Request.{Request}
use Rattle.protocol.specs.declared.request.Request.TheVariants.{Write, Time}

-- kinds 11 and 12 write in the book, and the others are for the sheet
abbrev pub requested : Call → Request
requested (Open total) = Time (sheet.Open total)
requested (Bounds leg low high) = Time (sheet.Bounds leg low high)
requested (Window stop low high) = Time (sheet.Window stop low high)
requested (Lift stop) = Time (sheet.Lift stop)
requested (Total total) = Time (sheet.Total total)
requested Close = Time sheet.Close
requested (AddLeg q t r lo hi) = Write (Leg (record { q = q; t = t; r = r; lo = lo; hi = hi }))
requested (SetRate leg rate) = Write (Rate leg rate)
