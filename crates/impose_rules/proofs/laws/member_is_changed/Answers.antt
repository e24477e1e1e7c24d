-- Members stay in order below and above the variable.
use Rattle.impose_rules.proofs.ChangedMembers.{member_is_changed}
use Rattle.impose_rules.proofs.laws.member_is_changed.Goals as goal

pub returns : goal.returns
returns c = member_is_changed
