-- What the program answers to a line. Assumes nothing.
use Rattle.std.specs.Prelude.{◌≡◌, Some, None, Ok, Err, Option, Result}
use Rattle.calendar.specs.Of.{time_of}
use Rattle.calendar.specs.Reading.{reading}
use Rattle.calendar.specs.Time.{next}
use Rattle.calendar.specs.declared.fault.CalendarFault.{CalendarFault}
use Rattle.steps.specs.Iterate.{iterate}
use Rattle.moveon.specs.declared.answer.Moved.{Moved}
use Rattle.moveon.specs.declared.answer.NotMoved.{NotMoved}
use Rattle.moveon.specs.declared.answer.NotMoved.TheVariants.{NoDate, Unreadable}
use Rattle.moveon.specs.declared.fault.LineFault.{LineFault}
use Rattle.moveon.specs.declared.line.Request.{Request}

-- The bytes are a time, and the clock is moved on from it by the seconds asked; or they are no date, and refused.
abbrev pub Carried : Request → Result Moved CalendarFault → Type 0
Carried request (Ok moved) =
    (reading request.locations ≡ Ok (time_of moved.before))
    × (moved.seconds ≡ request.seconds)
    × (time_of moved.after ≡ iterate next moved.seconds (time_of moved.before))
Carried request (Err fault) = reading request.locations ≡ Err fault

-- a line that asks nothing has no answer, and one that cannot be read has its fault
abbrev pub Answered : Result (Option Request) LineFault → Result (Option Moved) NotMoved → Type 0
Answered (Ok None) answer = answer ≡ Ok None
Answered (Ok (Some request)) (Ok None) = ⊥
Answered (Ok (Some request)) (Ok (Some moved)) = Carried request (Ok moved)
Answered (Ok (Some request)) (Err (NoDate fault)) = Carried request (Err fault)
Answered (Ok (Some request)) (Err (Unreadable fault)) = ⊥
Answered (Err fault) answer = answer ≡ Err (Unreadable fault)
