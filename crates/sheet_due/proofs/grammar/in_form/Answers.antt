-- By the sheet.
use Rattle.sheet_due.proofs.grammar.in_form.Goals as goal

pub returns-in-Permissions : goal.returns-in-Permissions
returns-in-Permissions c = rw c.in-Permissions.is c.permission_columns.ensures

pub returns-in-Request : goal.returns-in-Request
returns-in-Request c = rw c.in-Request.is c.request_columns.ensures
