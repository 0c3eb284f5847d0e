use Rattle.std.proofs.Common.{◌≡◌, ◌-◌}
use Rattle.moveon.specs.Reading.{bytes_from, bytes_end}
use Rattle.moveon.proofs.Locations.{onward}
use Rattle.moveon.proofs.field.Fields.next_bytes.Given as goal

abbrev pub invariant-loop-byte : goal.invariant-loop-byte
invariant-loop-byte l = record {
  is : onward l.self.line l.byte-index l.byte-items l.self.place ≡ bytes_from 7 l.fn.self.line l.fn.self.place;
  line : l.self.line ≡ l.fn.self.line;
  past : bytes_end (7 - l.byte-index) l.self.line l.self.place ≡ bytes_end 7 l.fn.self.line l.fn.self.place;
}
