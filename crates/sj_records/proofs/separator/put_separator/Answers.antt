use Rattle.std.proofs.Common.{rules}
use Rattle.sj_records.proofs.separator.put_separator.Goals as goal

pub returns-else-not-is_first : goal.returns-else-not-is_first
returns-else-not-is_first c = search rules
