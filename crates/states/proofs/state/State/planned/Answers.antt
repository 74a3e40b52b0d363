use Rattle.std.proofs.Common.{◌∙◌, ap}
use Rattle.register.specs.Register.{with_bounds, with_window}
use Rattle.states.proofs.state.State.planned.Goals as goal

pub returns-in-Bounds : goal.returns-in-Bounds
returns-in-Bounds g c = rw c.in-Bounds.is (c.set_bounds.ensures ∙ ap (with_bounds c.in-Bounds.leg c.in-Bounds.low c.in-Bounds.high) c.held.ensures)

pub returns-in-Window : goal.returns-in-Window
returns-in-Window g c = rw c.in-Window.is (c.set_window.ensures ∙ ap (with_window c.in-Window.stop c.in-Window.low c.in-Window.high) c.held-in-Window.ensures)

pub returns-in-Lift : goal.returns-in-Lift
returns-in-Lift g c = rw c.in-Lift.is (c.set_window-in-Lift.ensures ∙ ap (with_window c.in-Lift.stop 0 4095) c.held-in-Lift.ensures)
