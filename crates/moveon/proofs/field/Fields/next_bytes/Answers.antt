use Rattle.std.proofs.Common.{Err, ap, ◌∙◌, arith}
use Rattle.std.proofs.lemmas.Result.{err_from_is_err_and}
use Rattle.moveon.proofs.Locations.{no_byte_more, stops_there, all_past}
use Rattle.moveon.proofs.field.Fields.next_bytes.Goals as goal

pub returns-in_err-byte : goal.returns-in_err-byte
returns-in_err-byte c =
    let at = c.loop-byte in
    let test = c.loop-byte-test.true in
    let told = err_from_is_err_and c.from_residual.result c.from_residual.ensures.1 in
    let fault = c.in_err-byte.ensures.reads.is in
    let left = stops_there at.self.line at.byte-index at.byte-items at.self.place _ test fault ∙ at.invariant.past in
    record {
      reads = record {
        is = rw told.1 (ap Err told.2 ∙ no_byte_more at.self.line at.byte-index at.byte-items at.self.place _ test fault ∙ at.invariant.is);
        line = c.next_byte.ensures.reads.line ∙ at.invariant.line;
      };
      past = c.next_byte.ensures.past ∙ (λ i. record { line = at.invariant.line i; place = left i });
    }

pub returns-clause-past : goal.returns-clause-past
returns-clause-past c =
    let at = c.loop-byte in
    let left = all_past at.self.line at.byte-index at.byte-items at.self.place (omega arith) ∙ at.invariant.past in
    λ i. record { line = at.invariant.line i; place = left i }
