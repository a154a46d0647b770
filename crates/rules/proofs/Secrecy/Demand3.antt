-- Demand 3, entire, over sheets of bytes: two accepted directories of one schema, with the same aliases, that are alike in all that a requester is
-- shown under one permission sheet give that requester, for every request and buffer length, the same outcome, bytes, incompleteness mark and refusal.
use Rattle.std.specs.Prelude.{◌≡◌, ℕ, Bool, true, false, ◌||◌, length, drop, eqb}
use Rattle.std.proofs.Math.Path.{refl, ap}
use Rattle.std.proofs.Common.{sym, ◌∙◌, subst, eqb-true}
use Rattle.std.proofs.Math.Option.{Option, none, some}
use mathlib.Core.List.{List, [], ◌∷◌, map}
use Rattle.rules.specs.Lists.{any, keep}
use Rattle.rules.specs.Sheet.{Bytes, Line, line, bit, print}
use Rattle.rules.specs.declared.Format.{Format}
use Rattle.rules.specs.Name.{Schema, Name}
use Rattle.rules.specs.Judge.{Verdict, accept, refuse, refuse_if, then}
use Rattle.rules.specs.Directory.{Directory, directory_of, Entry, entries_in, Alias, aliases}
use Rattle.rules.specs.Permission.{Item, permissions_of, Read, ReturnDN, DiscloseOnError, Compare, FilterMatch}
use Rattle.rules.specs.Decision.{Setting, Requester, entry, of_type, of_value, granted}
use Rattle.rules.specs.Request.{Operation, read, compare, list, search, Request, request_of}
use Rattle.rules.specs.Aliases.{resolved, aliased}
use Rattle.rules.specs.Answer.{listed, list_hit, returned, list_hits, answer, answer_resolved, answer_to}
use Rattle.rules.specs.Serve.{setting_of, Ground, ground, exchange, above, tighter, capped, within, fitting, respond, judged_at, serve_at}
use Rattle.rules.specs.declared.Limits.{Limits}
use Rattle.rules.specs.Shown.{of_entries, of_types, of_values, sight, shown, SameAliases, Alike}
use Rattle.rules.proofs.Laws.Tests.{or_right}
use Rattle.rules.proofs.Laws.Judge.{then-cong}
use Rattle.rules.specs.Derived.{Accepted}
use Rattle.rules.proofs.Laws.Directory.{accepted-means, once-named}
use Rattle.rules.proofs.Laws.Aliases.{aliased-alike, replaced-alike}
use Rattle.rules.proofs.Secrecy.FromShown.{Enough, answer-shown}

-- one of the permissions is granted
pub one_of : (f : ℕ → Bool) (q : ℕ) (qs : List ℕ) → any (eqb q) qs ≡ true → f q ≡ true → any f qs ≡ true
one_of f q [] m e = m
one_of f q (r ∷ rs) m e = go (eqb q r) refl m (λ n. one_of f q rs n e)
  where
    go : (b : Bool) → eqb q r ≡ b → (b || any (eqb q) rs) ≡ true → (any (eqb q) rs ≡ true → any f rs ≡ true) → (f r || any f rs) ≡ true
    go true i n ih = rw (ap f (sym (eqb-true q r i)) ∙ e)
    go false i n ih = or_right (f r) (any f rs) (ih n)

-- what demand 3 names is enough
sight-enough : (σ : Setting) → Enough σ (sight σ)
unfolding sight
sight-enough σ = record {
  entry_read = λ n. one_of (granted σ n entry) Read of_entries refl;
  entry_returned = λ n. one_of (granted σ n entry) ReturnDN of_entries refl;
  entry_disclosed = λ n. one_of (granted σ n entry) DiscloseOnError of_entries refl;
  type_read = λ n t. one_of (granted σ n (of_type t)) Read of_types refl;
  type_compared = λ n t. one_of (granted σ n (of_type t)) Compare of_types refl;
  type_filtered = λ n t. one_of (granted σ n (of_type t)) FilterMatch of_types refl;
  type_disclosed = λ n t. one_of (granted σ n (of_type t)) DiscloseOnError of_types refl;
  value_read = λ n t v. one_of (granted σ n (of_value t v)) Read of_values refl;
  value_compared = λ n t v. one_of (granted σ n (of_value t v)) Compare of_values refl;
  value_filtered = λ n t v. one_of (granted σ n (of_value t v)) FilterMatch of_values refl;
}

-- an accepted directory's answer, from what is shown of it
answer-from-shown : (σ : Setting) (d : Directory) → σ.schema ≡ d.schema → Accepted d.schema d.entries → (as' : List Alias) (n : Name) (o : Operation)
    → answer σ (entries_in d) as' n o ≡ answer σ (shown σ d) as' n o
unfolding shown entries_in
answer-from-shown σ d e ok as' n o =
    sym (answer-shown σ (sight σ) (sight-enough σ) (entries_in d) as' n (once-named σ.schema d.entries (subst (λ (S : Schema). Accepted S d.entries) (sym e) ok) n) o)

-- an answer asks aliases for list's mark alone
marks-alike : (σ : Setting) (es : List Entry) (as₁ as₂ : List Alias) → ((n : Name) → aliased σ.schema as₁ n ≡ aliased σ.schema as₂ n) → (n : Name) (o : Operation)
    → answer σ es as₁ n o ≡ answer σ es as₂ n o
unfolding answer list_hits list_hit
marks-alike σ es as₁ as₂ same n (read s) = refl
marks-alike σ es as₁ as₂ same n (compare t v) = refl
marks-alike σ es as₁ as₂ same n (list limit) =
    λ i. returned σ es 3 n limit (map (λ e. map (λ p. line 32 p.type 0 (bit (same e.name i)) p.value) (drop (length n) e.name)) (keep (listed σ n) es))
marks-alike σ es as₁ as₂ same n (search r) = refl

-- accepted directories of one schema, with the same aliases, that show the requester the same answer alike
module _ (f : Format) (s₁ s₂ : Bytes) (d₁ d₂ : Directory) (e₁ : directory_of f s₁ ≡ accept d₁) (e₂ : directory_of f s₂ ≡ accept d₂) (e : d₁.schema ≡ d₂.schema)
    (aliases-same : SameAliases d₁ d₂) (is : List Item) (u : Requester) (same : shown (setting_of d₁ is u) d₁ ≡ shown (setting_of d₂ is u) d₂) where
  answer-alike : (n : Name) (o : Operation) → answer (setting_of d₁ is u) (entries_in d₁) (aliases d₁) n o ≡ answer (setting_of d₂ is u) (entries_in d₂) (aliases d₂) n o
  answer-alike n o =
      answer-from-shown (setting_of d₁ is u) d₁ refl (accepted-means f s₁ d₁ e₁) (aliases d₁) n o
      ∙ (λ i. answer (record { schema = e i; items = is; requester = u }) (same i) (aliases d₁) n o)
      ∙ sym (answer-from-shown (setting_of d₂ is u) d₂ refl (accepted-means f s₂ d₂ e₂) (aliases d₁) n o)
      ∙ marks-alike (setting_of d₂ is u) (entries_in d₂) (aliases d₁) (aliases d₂) (aliased-alike d₂.schema (aliases d₁) (aliases d₂) aliases-same) n o

  answers-alike : (n : Name) (o : Operation) → answer_to (setting_of d₁ is u) (entries_in d₁) (aliases d₁) n o ≡ answer_to (setting_of d₂ is u) (entries_in d₂) (aliases d₂) n o
  unfolding answer_to
  answers-alike n o =
      ap (answer_resolved (setting_of d₁ is u) (entries_in d₁) (aliases d₁) o) (replaced-alike f s₁ s₂ d₁ d₂ e₁ e₂ e aliases-same n) ∙ go (resolved d₂.schema (aliases d₂) n)
    where
      go : (m : Option Name) → answer_resolved (setting_of d₁ is u) (entries_in d₁) (aliases d₁) o m ≡ answer_resolved (setting_of d₂ is u) (entries_in d₂) (aliases d₂) o m
      go none = refl
      go (some m) = answer-alike m o

judged-alike : (f : Format) (k : Limits) (d₁ d₂ p q : Bytes) (room : ℕ) → Alike f p q d₁ d₂ → judged_at f k d₁ p q room ≡ judged_at f k d₂ p q room
unfolding judged_at ground
judged-alike f k d₁ d₂ p q room alike = rw (alike.accepted₁, alike.accepted₂) inner
  where
    D₁ : Directory
    D₁ = alike.first

    D₂ : Directory
    D₂ = alike.second

    on_ground : Ground → Verdict Bytes
    on_ground g = then (request_of f g.directory.schema q) (λ r. respond f g (within k r) room)

    from : (S : Schema) → Directory → Verdict Bytes
    from S d = then (then (permissions_of f S p) (λ is. accept (record { directory = d; items = is }))) on_ground

    same : (is : List Item) → permissions_of f D₁.schema p ≡ accept is → (r : Request) → request_of f D₁.schema q ≡ accept r
        → respond f (record { directory = D₁; items = is }) (within k r) room ≡ respond f (record { directory = D₂; items = is }) (within k r) room
    same is e r h = unfold respond within in
        ap (λ (ls : List Line). fitting room (print f.width ls))
        (let (named, seen) = alike.same is r e h in
        answers-alike f d₁ d₂ D₁ D₂ alike.accepted₁ alike.accepted₂ alike.schema named is r.requester seen r.base (capped k.entries r.operation))

    by : (v : Verdict (List Item)) → permissions_of f D₁.schema p ≡ v
        → then (then v (λ is. accept (record { directory = D₁; items = is }))) on_ground ≡ then (then v (λ is. accept (record { directory = D₂; items = is }))) on_ground
    by (accept is) e =
        then-cong (request_of f D₁.schema q) _ _ (same is e)
        ∙ ap (λ (S : Schema). then (request_of f S q) (λ r. respond f (record { directory = D₂; items = is }) (within k r) room)) alike.schema
    by (refuse n) e = refl

    inner : from D₁.schema D₁ ≡ from D₂.schema D₂
    inner = by (permissions_of f D₁.schema p) refl ∙ ap (λ (S : Schema). from S D₂) alike.schema

-- the theorem: for every form, program, permission sheet `p`, request sheet `q` and buffer length `room`
pub demand-3 : (f : Format) (k : Limits) (d₁ d₂ p q : Bytes) (room : ℕ) → Alike f p q d₁ d₂ → serve_at f k d₁ p q room ≡ serve_at f k d₂ p q room
unfolding serve_at
demand-3 f k d₁ d₂ p q room alike = ap (refuse_if (above k room) 33) (judged-alike f k d₁ d₂ p q room alike)

-- an exchange's request is asked as it stands
pub within-exchange : (r : Request) → within exchange r ≡ r
unfolding within capped tighter
within-exchange r = ap (λ (o : Operation). record { requester = r.requester; base = r.base; operation = o }) (go r.operation)
  where
    go : (o : Operation) → capped 0 o ≡ o
    go (read s) = refl
    go (compare t v) = refl
    go (list limit) = refl
    go (search s) = refl
