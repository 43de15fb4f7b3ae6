use Rattle.sj_records.proofs.KeptAlong.{forms_agree, refusing_forms_agree}
use Rattle.sj_records.proofs.laws.forms_agree.Goals as goal

pub returns-clause-kept : goal.returns-clause-kept
returns-clause-kept c = forms_agree

pub returns-clause-refused : goal.returns-clause-refused
returns-clause-refused c = refusing_forms_agree
