use Rattle.std.proofs.Common.{◌≡◌, subst, rules}
use Rattle.moveon.specs.Reading.{reading}
use Rattle.moveon.specs.Written.{AsWritten}
use Rattle.moveon.proofs.Accepted.{read_is_written, passed_is_blank}
use Rattle.moveon.proofs.Spelled.{written_is_read, blanks_are_passed}
use Rattle.moveon.proofs.line.parse.Goals as goal

pub returns-clause-written : goal.returns-clause-written
returns-clause-written c =
    let line = c.args.line.now in
    let is : reading line ≡ c.asked_by.result = search rules in
    subst (AsWritten line) is (record {
      passed = blanks_are_passed line;
      blank_line = passed_is_blank line;
      read = written_is_read line;
      asks = read_is_written line;
    })
