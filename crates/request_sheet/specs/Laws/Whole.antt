-- Laws of `Whole`: what the code makes of a sheet is what `judge` promises.
use Rattle.std.specs.Prelude.{ℕ, ◌+◌, ◌≤◌, ◌≡◌, Bool, not, cond, ltb, eqb, length, Result, Ok, Err}
use Rattle.rules.specs.declared.refusals.Refusal.{Refusal}
use Rattle.std.proofs.Math.Path.{refl}
use Rattle.std.proofs.Common.{sym, ◌∙◌, eqb-true, ltb-false}
use Rattle.std.proofs.Math.Bool.{true, false}
use Rattle.std.proofs.Math.Option.{none, some}
use Rattle.rules.specs.Sheet.{Bytes, Sheet}
use Rattle.rules.specs.Value.{ordered}
use Rattle.rules.specs.Name.{Schema, of_syntax}
use Rattle.rules.specs.declared.Format.{Format}
use Rattle.rules.specs.Judge.{Verdict, accept, refuse, refuse_if, then, Grammar, misplaced, at_end, due, due_lines, name_of}
use Rattle.rules.specs.Request.{Operation, read, compare, list, search, Request, request_grammar, edition_of, operation, request, ordering_of, has_order, request_of}
use Rattle.rules.specs.Places.{lines_at, ordering_by}
use Rattle.sheet_line.specs.Line.{line_of}
use Rattle.sheet_line.specs.declared.Line.{Line}
use Rattle.sheet_due.specs.Lines.{seen_at, reached_at, after_group}
use Rattle.sheet_due.specs.Laws.Lines.{on_seen, by-seen, after, group-is, followers, first-parts, name-length, took-columns, TookGroup, took-group}
use Rattle.sheet_due.specs.declared.Seen.{Seen}
use Rattle.sheet_due.specs.Outcomes.{Reached, Group}
use Rattle.request_operation.specs.Operations.{BodyDue, body_at}
use Rattle.request_operation.specs.declared.Body.{Body}
use Rattle.request_sheet.specs.declared.Asked.{Asked}
use Rattle.request_sheet.specs.Noted.{NotedName, NotedOperation, RequestNoted, RequestJudged}
use Rattle.request_sheet.specs.Whole.{numbered, asked, end_by, or_refused, with_body, requester_at, base_at, asked_of, orderable_by, ordered_of}
use Rattle.request_sheet.specs.Laws.Bounds.{Bounds, request-bounds}
use Rattle.request_sheet.specs.Laws.Operations.{Leads, body-leads}

-- `RequestJudged`, of any verdict and of a refusal's number
abbrev pub Meets : Grammar → ℕ → Bytes → Verdict Request → Result Asked ℕ → Type 0
Meets G w q v (Ok a) = (x : Request) × (v ≡ accept x) × RequestNoted G w q x a
Meets G w q v (Err n) = v ≡ refuse n

module _ (G : Grammar) (bounds : Bounds G) (w : ℕ) (q : Bytes) where
  -- a refusal, or what follows
  meets-after : (n : ℕ) (v : Verdict Request) (r : Result Asked ℕ) → (n ≡ 0 → Meets G w q v r) → Meets G w q (after n v) (or_refused n r)
  meets-after n v r h = by (eqb n 0) refl
    where
      by : (t : Bool) → eqb n 0 ≡ t → Meets G w q (cond t v (refuse n)) (cond t r (Err n))
      by true e = h (eqb-true n 0 e)
      by false e = refl

  -- the end of the sheet
  module _ (x : Request) (requester base : Line) (b : Body) (h : RequestNoted G w q x (asked requester base b)) where
    end_seen : (s : Seen) → Meets G w q (on_seen w q (accept x) (refuse (G.refusals + 2)) (λ y rest. refuse (G.refusals + 3)) s) (end_by G.refusals requester base b s)
    end_seen (Seen.Line y) = refl
    end_seen Seen.NotAllowed = refl
    end_seen Seen.Missing = (x, refl, h)

    end-meets : Meets G w q (at_end x (lines_at w q b.next) (misplaced G (lines_at w q b.next))) (end_by G.refusals requester base b (seen_at G.forms w q b.next))
    unfolding misplaced
    end-meets =
        rw (by-seen G.forms w q b.next (λ s. at_end x s (misplaced G s)) (accept x) (refuse (G.refusals + 2)) (λ y rest. refuse (G.refusals + 3)) refl refl (λ y rest e. rw e) (λ y rest e. rw e))
        (end_seen (seen_at G.forms w q b.next))

  -- a name of a group that was taken
  name-noted : {r : Reached} {k : ℕ} (g : Group) → TookGroup G w q r k g → g.line.b ≤ 8 → NotedName w q (name_of (followers w q g)) g.line.next g.line.b
  name-noted g t h = record { parts = sym (first-parts g.line.b (lines_at w q g.line.next)); count = name-length (followers w q g) ∙ t.count; most = h }

  abbrev requester : Group
  requester = requester_at G w q

  abbrev base : Group
  base = base_at G w q

  abbrev body : BodyDue
  body = body_at G w q base.next base.line.a

  -- the request with this operation
  request_with : Operation → Request
  request_with o =
      record {
        requester = record { level = requester.line.a; name = name_of (followers w q requester) };
        base = name_of (followers w q base);
        operation = o;
      }

  -- what the rules do after the operation's lines
  ending : Operation → Sheet → Verdict Request
  ending o s = at_end (request_with o) s (misplaced G s)

  -- the operation's lines and the end
  body-meets : length q ≤ 8192 → base.refusal ≡ 0 → Meets G w q (operation G (edition_of requester.line.c) (line_of q base.line) (lines_at w q base.next) ending) (with_body G w q requester.line base.line body)
  unfolding ending request_with with_body
  body-meets short z =
      rw (leads.is Request ending)
      (meets-after body.refusal (ending leads.asks (lines_at w q body.body.next)) (end_by G.refusals requester.line base.line body.body (seen_at G.forms w q body.body.next)) (λ y. end-meets (request_with leads.asks) requester.line base.line body.body
      (record {
        level = refl;
        requester = name-noted requester t₁ (bounds.requester _ _ _ _ (took-columns t₁.head));
        base = name-noted base t₂ columns.0;
        operation = leads.noted y requester.line refl;
        short = short;
      })))
    where
      t₂ : TookGroup G w q (after_group requester) 11 base
      t₂ = took-group G w q (after_group requester) 11 9 z

      t₁ : TookGroup G w q (reached_at 0) 10 requester
      t₁ = took-group G w q (reached_at 0) 10 9 t₂.head.clear

      columns : (base.line.b ≤ 8) × (1 ≤ base.line.a) × (base.line.a ≤ 4) × (base.line.a ≤ 2 → base.line.c ≡ 0)
      columns = bounds.base _ _ _ _ (took-columns t₂.head)

      leads : Leads G w q base.next requester.line.c base.line body
      leads = body-leads G bounds w q base.next requester.line.c base.line columns.3 columns.1 columns.2

  -- the rules, part by part
  request-is : request G (lines_at w q 0) ≡ after base.refusal (operation G (edition_of requester.line.c) (line_of q base.line) (lines_at w q base.next) ending)
  unfolding request ending request_with
  request-is =
      group-is G w q (reached_at 0) 10 9 (λ x name s. due G 11 s λ y s. due_lines G 9 y.b s λ base s. operation G (edition_of x.c) y s λ o s.
      at_end (record { requester = record { level = x.a; name = name_of name }; base = name_of base; operation = o }) s (misplaced G s))
      ∙ group-is G w q (after_group requester) 11 9 (λ y base s. operation G (edition_of requester.line.c) y s λ o s.
      at_end (record { requester = record { level = requester.line.a; name = name_of (followers w q requester) }; base = name_of base; operation = o }) s (misplaced G s))

  asked_by_lem : (t : Bool) → ltb 8192 (length q) ≡ t
      → Meets G w q (refuse_if t 21 (request G (lines_at w q 0))) (cond t (Err 21) (or_refused base.refusal (with_body G w q requester.line base.line body)))
  asked_by_lem true e = refl
  asked_by_lem false e = rw request-is (meets-after base.refusal (operation G (edition_of requester.line.c) (line_of q base.line) (lines_at w q base.next) ending) (with_body G w q requester.line base.line body) (body-meets (ltb-false 8192 (length q) e)))

-- ---- a type that has an order

module _ (G : Grammar) (bounds : Bounds G) (w : ℕ) (q : Bytes) (S : Schema) where
  -- what an accepted request is ordered by, as it is noted
  ordering-noted : (x : Operation) (r : Asked) → NotedOperation G w q x r → ordering_of x ≡ ordering_by r.order_type r.falling
  ordering-noted (read s) r h = rw h.no-filter.type
  ordering-noted (compare t v) r h = rw h.no-filter.type
  ordering-noted (list limit) r h = rw h.no-filter.type
  ordering-noted (search s) r h = sym h.ordering

  -- a request, judged by the schema too
  ordered-accepted : (x : Request) (r : Asked) → RequestNoted G w q x r → Meets G w q (refuse_if (not (has_order S (ordering_of x.operation))) 24 (accept x)) (orderable_by S r)
  unfolding orderable_by
  ordered-accepted x r m = rw (ordering-noted x.operation r m.operation) (go (eqb r.order_type 0) (of_syntax S ordered r.order_type) refl)
    where
      go : (t u : Bool) → of_syntax S ordered r.order_type ≡ u
          → Meets G w q (refuse_if (not (has_order S (cond t none (some (record { type = r.order_type; falling = r.falling }))))) 24 (accept x)) (cond t (Ok r) (cond u (Ok r) (Err 24)))
      go true u e = (x, refl, m)
      go false true e = rw e (x, refl, m)
      go false false e = rw e

  ordered-meets : (v : Verdict Request) (r : Result Asked ℕ) → Meets G w q v r → Meets G w q (then v λ x. refuse_if (not (has_order S (ordering_of x.operation))) 24 (accept x)) (ordered_of S r)
  ordered-meets v (Ok a) m = rw m.1 (ordered-accepted m.0 a m.2)
  ordered-meets v (Err n) m = rw m

-- what the code does is what `judge` promises
judged_by : (f : Format) (S : Schema) (q : Bytes) (r : Result Asked Refusal) → Meets (request_grammar f.top) f.width q (request_of f S q) (numbered r) → RequestJudged f S q r
judged_by f S q (Ok a) m = m
judged_by f S q (Err n) m = m

-- the definitions of the code are the rules, whatever they come to
pub asked-meets : (f : Format) (S : Schema) (q : Bytes) → Meets (request_grammar f.top) f.width q (request_of f S q) (ordered_of S (asked_of (request_grammar f.top) f.width q))
unfolding asked_of request_of
asked-meets f S q =
    ordered-meets (request_grammar f.top) (request-bounds f.top) f.width q S _ (asked_of (request_grammar f.top) f.width q) (asked_by_lem (request_grammar f.top) (request-bounds f.top) f.width q (ltb 8192 (length q)) refl)

pub asked-judged : (f : Format) (S : Schema) (q : Bytes) (r : Result Asked Refusal) → numbered r ≡ ordered_of S (asked_of (request_grammar f.top) f.width q) → RequestJudged f S q r
asked-judged f S q r e = judged_by f S q r (rw e (asked-meets f S q))
