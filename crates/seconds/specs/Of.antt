-- The running second that a divider holds.
-- Assumes nothing.
use Rattle.seconds.specs.Units.{Running, Run}
use Rattle.seconds.specs.declared.counts.Counts.{Counts}
use Rattle.seconds.specs.declared.divider.Divider.{Divider}

abbrev pub running_of : Divider → Running
running_of d = record { gone = d.gone; index = d.index; length = d.length }

-- a divider, with what has been counted
abbrev pub run_of : Divider → Counts → Run
run_of d c = record { running = running_of d; counts = c }
