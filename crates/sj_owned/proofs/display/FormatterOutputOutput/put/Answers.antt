use Rattle.std.proofs.Common.{rules}
use Rattle.sj_owned.proofs.display.FormatterOutputOutput.put.Goals as goal

pub returns-in-Ok-write_str : goal.returns-in-Ok-write_str
returns-in-Ok-write_str g c = search rules
