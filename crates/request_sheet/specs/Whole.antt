-- A whole request sheet, as the code judges it. It is over a grammar of the rules; its refusals are `n` and 2 or 3.
use Rattle.std.specs.Prelude.{ℕ, ◌+◌, cond, ltb, eqb, length, Result, Ok, Err}
use Rattle.rules.specs.Sheet.{Bytes}
use Rattle.rules.specs.Value.{ordered}
use Rattle.rules.specs.Name.{Schema, of_syntax}
use Rattle.rules.specs.Judge.{Grammar}
use Rattle.rules.specs.Request.{edition_of}
use Rattle.rules.specs.Refusals.{refusal_number}
use Rattle.rules.specs.declared.refusals.Refusal.{Refusal}
use Rattle.rules.specs.declared.Edition.{Edition}
use Rattle.rules.specs.declared.Edition.TheVariants.{LaterLogic}
use Rattle.sheet_line.specs.declared.Line.{Line}
use Rattle.sheet_due.specs.Lines.{seen_at, reached_at, after_group, group_at}
use Rattle.sheet_due.specs.declared.Seen.{Seen}
use Rattle.sheet_due.specs.Outcomes.{Group}
use Rattle.request_operation.specs.Operations.{BodyDue, body_at}
use Rattle.request_operation.specs.declared.Body.{Body}
use Rattle.request_sheet.specs.declared.Asked.{Asked}

-- a result, its refusal as the number
abbrev pub numbered : Result Asked Refusal → Result Asked ℕ
numbered (Ok a) = Ok a
numbered (Err r) = Err (refusal_number r)

-- the edition of a search, by column C of K 10; other operations have none
unfoldable pub edition_in : ℕ → ℕ → Edition
edition_in op c = cond (eqb op 4) (edition_of c) LaterLogic

-- all that was found: the lines of requester and base, and the lines after them
abbrev pub asked : Line → Line → Body → Asked
asked requester base b =
    record {
      level = requester.a;
      requester = requester.next;
      requester_parts = requester.b;
      operation = base.a;
      base = base.next;
      base_parts = base.b;
      limit = base.c;
      listed = eqb b.selection.a 1;
      types = b.selection.next;
      types_listed = b.selection.b;
      values = eqb b.selection.c 1;
      attribute = b.assertion.a;
      value = b.assertion.place;
      length = b.assertion.length;
      order_type = b.ordering.a;
      falling = eqb b.ordering.b 1;
      subset = b.subset.a;
      filter = b.subset.next;
      edition = edition_in base.a requester.c;
    }

-- after the last line: the sheet's end, or a surplus line
abbrev pub end_by : ℕ → Line → Line → Body → Seen → Result Asked ℕ
end_by n requester base b (Seen.Line x) = Err (n + 3)
end_by n requester base b Seen.NotAllowed = Err (n + 2)
end_by n requester base b Seen.Missing = Ok (asked requester base b)

-- `r`, unless there is a refusal
abbrev pub or_refused : ℕ → Result Asked ℕ → Result Asked ℕ
or_refused n r = cond (eqb n 0) r (Err n)

module _ (G : Grammar) (w : ℕ) (q : Bytes) where
  -- after the base, the operation's lines
  unfoldable pub with_body : Line → Line → BodyDue → Result Asked ℕ
  with_body requester base b = or_refused b.refusal (end_by G.refusals requester base b.body (seen_at G.forms w q b.body.next))

  -- requester and base
  abbrev pub requester_at : Group
  requester_at = group_at G w q (reached_at 0) 10 9

  abbrev pub base_at : Group
  base_at = group_at G w q (after_group requester_at) 11 9

  -- the whole sheet
  unfoldable pub asked_of : Result Asked ℕ
  asked_of =
      cond (ltb 8192 (length q)) (Err 21)
      (or_refused base_at.refusal (with_body requester_at.line base_at.line (body_at G w q base_at.next base_at.line.a)))

-- the request, unless it orders by a type that is unknown or has no order
unfoldable pub orderable_by : Schema → Asked → Result Asked ℕ
orderable_by S r = cond (eqb r.order_type 0) (Ok r) (cond (of_syntax S ordered r.order_type) (Ok r) (Err 24))

-- a refused request is not judged by its type
abbrev pub ordered_of : Schema → Result Asked ℕ → Result Asked ℕ
ordered_of S (Ok a) = orderable_by S a
ordered_of S (Err n) = Err n
