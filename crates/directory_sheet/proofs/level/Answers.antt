use Rattle.directory_sheet.proofs.level.Goals as goal

pub returns-then-alias : goal.returns-then-alias
returns-then-alias c = rw c.if-alias.true

pub returns : goal.returns
returns c = rw c.if-alias.false
