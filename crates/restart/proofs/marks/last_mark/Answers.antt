use native.Mathlib.Omega.{arith}
use lib.ListN.{length}
use borrow.Author.Tests.{le-leb, lt-leb}
use Rattle.rules.specs.MarkFile.{file_limit, good_file}
use Rattle.restart.specs.Marks.{marks_in, marks_of}
use Rattle.restart.proofs.marks.last_mark.Goals as goal

pub returns-then-file-le-FILE_LIMIT : goal.returns-then-file-le-FILE_LIMIT
unfolding marks_in marks_of good_file
returns-then-file-le-FILE_LIMIT c = rw (c.pass.ensures, le-leb (length c.args.file.now) file_limit (omega arith))

pub returns-else-file-le-FILE_LIMIT : goal.returns-else-file-le-FILE_LIMIT
unfolding marks_of good_file
returns-else-file-le-FILE_LIMIT c = rw (lt-leb (length c.args.file.now) file_limit (omega arith))
