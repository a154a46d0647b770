-- By the sheet.
use Rattle.sheet_due.proofs.grammar.sound.Goals as goal

pub returns-in-Permissions : goal.returns-in-Permissions
returns-in-Permissions c = rw c.in-Permissions.is c.sound_item.ensures

pub returns-in-Request : goal.returns-in-Request
returns-in-Request c = rw c.in-Request.is
