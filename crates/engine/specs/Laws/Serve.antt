-- Laws of `Serve`: what each refusal and each acceptance makes of the verdict.
use Rattle.std.specs.Prelude.{ℕ, ◌≡◌, true, false, List}
use Rattle.std.proofs.Math.Path.{refl}
use Rattle.rules.specs.Sheet.{Bytes}
use Rattle.rules.specs.Judge.{Verdict, accept, refuse, refusal_of, then}
use Rattle.rules.specs.Directory.{Directory, directory_of}
use Rattle.rules.specs.Permission.{Item, permissions_of}
use Rattle.rules.specs.Request.{Request, request_of}
use Rattle.rules.specs.Serve.{Ground, ground, above, within, respond, judged_at, serve_at}
use Rattle.rules.specs.declared.Format.{Format}
use Rattle.rules.specs.declared.Limits.{Limits}
use Rattle.rules.specs.Places.{schema_of}
use Rattle.permission_sheet.specs.Noted as Permissions
use Rattle.permission_sheet.specs.Noted.{NotedItems}
use Rattle.engine.specs.Serve.{from_ground, from_directory}

module _ (f : Format) (k : Limits) (d p q : Bytes) (room : ℕ) where
  pub room-refuses : above k room ≡ true → serve_at f k d p q room ≡ refuse 33
  unfolding serve_at
  room-refuses e = rw e

  pub room-allows : above k room ≡ false → judged_at f k d p q room ≡ serve_at f k d p q room
  unfolding serve_at
  room-allows e = rw e

  pub directory-refuses : (n : ℕ) → directory_of f d ≡ refuse n → judged_at f k d p q room ≡ refuse n
  unfolding judged_at ground
  directory-refuses n e = rw e

  pub directory-accepts : (x : Directory) → directory_of f d ≡ accept x → from_directory f k x p q room ≡ judged_at f k d p q room
  unfolding judged_at ground
  directory-accepts x e = rw e (go (permissions_of f x.schema p))
    where
      go : (v : Verdict (List Item)) → then v (λ is. from_ground f k (record { directory = x; items = is }) q room)
          ≡ then (then v (λ is. accept (record { directory = x; items = is }))) (λ g. from_ground f k g q room)
      go (accept is) = refl
      go (refuse n) = refl

module _ (f : Format) (k : Limits) (x : Directory) (schema : List ℕ) (same : x.schema ≡ schema_of schema) (p q : Bytes) (room : ℕ) (r : NotedItems) (rights scopes : List ℕ) (j : Permissions.PermissionsJudged f p schema r rights scopes) where
  by-refusal : (v : Verdict (List Item)) → r.refusal ≡ refusal_of v → (r.refusal ≡ 0 → ⊥) → v ≡ refuse r.refusal
  by-refusal (accept is) e n = absurd (n e)
  by-refusal (refuse m) e n = rw e

  pub permissions-refuse : (r.refusal ≡ 0 → ⊥) → from_directory f k x p q room ≡ refuse r.refusal
  permissions-refuse n = rw (same, by-refusal (permissions_of f (schema_of schema) p) j.refusal n)

  pub permissions-accept : (is : List Item) → permissions_of f (schema_of schema) p ≡ accept is
      → from_ground f k (record { directory = x; items = is }) q room ≡ from_directory f k x p q room
  permissions-accept is e = rw (same, e)

module _ (f : Format) (k : Limits) (g : Ground) (q : Bytes) (room : ℕ) where
  pub request-refuses : (n : ℕ) → request_of f g.directory.schema q ≡ refuse n → from_ground f k g q room ≡ refuse n
  request-refuses n e = rw e

  pub request-accepts : (r : Request) → request_of f g.directory.schema q ≡ accept r → respond f g (within k r) room ≡ from_ground f k g q room
  request-accepts r e = rw e
