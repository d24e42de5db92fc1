-- Each arm answers what the definition says of its variant.
use Rattle.verdict.proofs.Acceptance.number.Goals as goal

pub returns-in-NoRoom : goal.returns-in-NoRoom
returns-in-NoRoom c = rw c.in-NoRoom.is

pub returns-in-Accepted : goal.returns-in-Accepted
returns-in-Accepted c = rw c.in-Accepted.is

pub returns-in-NotAccepted : goal.returns-in-NotAccepted
returns-in-NotAccepted c = rw c.in-NotAccepted.is
