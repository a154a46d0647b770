-- Laws of what is asked within a program's limits: it is noted as the request was.
use Rattle.std.specs.Prelude.{ℕ, ◌≤◌, ◌<◌, ◌≡◌}
use Rattle.std.proofs.Common.{ap, ◌∙◌, arith}
use Rattle.rules.specs.Sheet.{Bytes}
use Rattle.rules.specs.Judge.{Grammar}
use Rattle.rules.specs.Request.{Operation, read, compare, list, search, Request}
use Rattle.rules.specs.Serve.{tighter, capped, within}
use Rattle.rules.specs.declared.Limits.{Limits}
use Rattle.request_sheet.specs.Noted.{RequestNoted, NotedOperation, NoAssertion}
use Rattle.request_sheet.specs.declared.Asked.{Asked}

-- what is asked, with this size limit
abbrev pub with_limit : Asked → ℕ → Asked
with_limit a m =
    record {
      level = a.level;
      requester = a.requester;
      requester_parts = a.requester_parts;
      operation = a.operation;
      base = a.base;
      base_parts = a.base_parts;
      limit = m;
      listed = a.listed;
      types = a.types;
      types_listed = a.types_listed;
      values = a.values;
      attribute = a.attribute;
      value = a.value;
      length = a.length;
      order_type = a.order_type;
      falling = a.falling;
      subset = a.subset;
      filter = a.filter;
      edition = a.edition;
    }

module _ (G : Grammar) (w : ℕ) (q : Bytes) (k : Limits) (x : Request) (a : Asked) (n : RequestNoted G w q x a) where
  -- read and compare have no size limit
  pub noted-unlimited : a.operation < 3 → RequestNoted G w q (within k x) a
  unfolding within capped
  noted-unlimited l = record { level = n.level; requester = n.requester; base = n.base; operation = go x.operation n.operation; short = n.short }
    where
      go : (o : Operation) → NotedOperation G w q o a → NotedOperation G w q (capped k.entries o) a
      go (read s) h = h
      go (compare t v) h = h
      go (list limit) h = let z : a.operation ≡ 3 = h.operation in absurd (omega arith)
      go (search s) h = let z : a.operation ≡ 4 = h.operation in absurd (omega arith)

  -- list and search have the tighter one
  pub noted-limited : 3 ≤ a.operation → (m : ℕ) → m ≡ tighter k.entries a.limit → RequestNoted G w q (within k x) (with_limit a m)
  unfolding within capped
  noted-limited l m e = record { level = n.level; requester = n.requester; base = n.base; operation = go x.operation n.operation; short = n.short }
    where
      unasserted : NoAssertion a → NoAssertion (with_limit a m)
      unasserted h = record { attribute = h.attribute; value = h.value; count = h.count }

      go : (o : Operation) → NotedOperation G w q o a → NotedOperation G w q (capped k.entries o) (with_limit a m)
      go (read s) h = let z : a.operation ≡ 1 = h.operation in absurd (omega arith)
      go (compare t v) h = let z : a.operation ≡ 2 = h.operation in absurd (omega arith)
      go (list limit) h = record {
        operation = h.operation;
        limit = e ∙ ap (tighter k.entries) h.limit;
        no-selection = let s = h.no-selection in record { listed = s.listed; types = s.types; count = s.count; values = s.values };
        no-assertion = unasserted h.no-assertion;
        no-filter = let f = h.no-filter in record { type = f.type; falling = f.falling; subset = f.subset; filter = f.filter; edition = f.edition };
      }
      go (search s) h = record {
        operation = h.operation;
        limit = e ∙ ap (tighter k.entries) h.limit;
        selection = let s = h.selection in record { listed = s.listed; types = s.types; count = s.count; most = s.most; values = s.values };
        no-assertion = unasserted h.no-assertion;
        ordering = h.ordering;
        subset = h.subset;
        reads = h.reads;
        edition = h.edition;
      }
