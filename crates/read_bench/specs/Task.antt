-- The words of the tasks.
use Rattle.std.specs.Prelude.{◌≡◌, ◌≢◌, ℕ, List, codes, Result, Ok, Err}
use Rattle.read_bench.specs.declared.arguments.Kind.TheVariants.{Tape, Plain, Owned, Borrowed, Scan, Print}
use Rattle.read_bench.specs.declared.arguments.Task.{Task}
use Rattle.read_bench.specs.declared.arguments.Task.TheVariants.{Time, Compare}
use Rattle.read_bench.specs.declared.arguments.UnknownTask.{UnknownTask}

abbrev pub word_of : Task → List ℕ
word_of (Time Tape) = codes "tape"
word_of (Time Plain) = codes "plain"
word_of (Time Owned) = codes "owned"
word_of (Time Borrowed) = codes "borrowed"
word_of (Time Scan) = codes "scan"
word_of (Time Print) = codes "print"
word_of Compare = codes "compare"

-- The word is that of the task, or of no task.
abbrev pub Names : List ℕ → Result Task UnknownTask → Type 0
Names word (Ok task) = word ≡ word_of task
Names word (Err none) = (task : Task) → word ≢ word_of task
