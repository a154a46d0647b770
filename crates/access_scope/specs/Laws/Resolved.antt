-- The reaches of the items noted one by one.
use Prim.Native.Nat.{ℕ, zero, suc, ◌+◌, ◌≤◌, ◌<◌}
use Rattle.std.specs.Prelude.{◌≡◌, get_or, take, set}
use Rattle.std.proofs.Math.Path.{refl, sym, ap₂, subst}
use Rattle.std.proofs.Common.{◌∙◌, add-one, arith, take-suc-set, take-suc, take_all}
use mathlib.Core.List.{List, [], ◌∷◌, ◌++◌, map}
use Rattle.std.proofs.Math.ListN.{length, get_or-map}
use Rattle.std.proofs.lemmas.List.{length-map}
use Rattle.rules.specs.Sheet.{Bytes}
use Rattle.rules.specs.Directory.{Stored}
use Rattle.rules.specs.Decision.{Setting}
use Rattle.rules.specs.Derived.{no_item}
use Rattle.tables.specs.Numbers.{reach_of}
use Rattle.permission_sheet.specs.Noted.{Table}
use Rattle.tables.specs.Book.{width}
use Rattle.tables.specs.World.{Entries}
use Rattle.access_scope.specs.Scopes.{Asker, scope_at, item_by, own_number, reaches_by}
use Rattle.access_scope.specs.Laws.Scopes.{item-is}
use Rattle.access_scope.specs.declared.Requester.{Requester}
use Rattle.access_scope.specs.declared.Scope.{Scope}

module _ (book : List ℕ) (d p : Bytes) (rights scopes : List ℕ) (q : Bytes) (who : Requester) where
  -- the first `k` of `list` are the reaches of the first `k` items
  pub record Resolved (k : ℕ) (list : List ℕ) : Type 0 where
    pub front : (σ : Setting) (es : List Stored) (held : List ℕ) → Entries σ es d book held → take k list ≡ reaches_by σ.schema es (width book) p rights scopes q who k

  pub resolved-none : (list : List ℕ) → Resolved 0 list
  unfolding reaches_by
  resolved-none list = record { front = λ σ es held e. refl }

  -- one item more
  pub resolved-on : (k : ℕ) (list : List ℕ) (o n : ℕ) (x : Scope) → k < length list → Resolved k list
      → ((σ : Setting) (es : List Stored) (held : List ℕ) → Entries σ es d book held → o ≡ own_number σ.schema es (width book) q who)
      → x ≡ scope_at rights scopes k
      → ((σ : Setting) (es : List Stored) (held : List ℕ) → Entries σ es d book held → n ≡ item_by σ.schema es (width book) p x q who o)
      → Resolved (k + 1) (set list k n)
  unfolding reaches_by
  resolved-on k list o n x l inv own scope item = record {
    front = λ σ es held e.
        rw (add-one k)
        (take-suc-set list k n l
        ∙ ap₂ (λ (h : List ℕ) (y : ℕ). h ++ (y ∷ [])) (inv.front σ es held e)
        (item σ es held e ∙ ap₂ (λ (y : Scope) (m : ℕ). item_by σ.schema es (width book) p y q who m) scope (own σ es held e)));
  }

-- of the requester of the setting they are the reaches of the setting's items
module _ (σ : Setting) (es : List Stored) (w : ℕ) (p : Bytes) (rights scopes : List ℕ) (q : Bytes) (who : Requester) (asker : Asker σ w q who) (table : Table w p σ.items rights scopes) where
  reaches-front : (k : ℕ) → k ≤ length σ.items → reaches_by σ.schema es w p rights scopes q who k ≡ take k (map (reach_of σ es) σ.items)
  unfolding reaches_by
  reaches-front zero l = refl
  reaches-front (suc k) l =
      let g : k < length (map (reach_of σ es) σ.items) = subst (λ (m : ℕ). k < m) (sym (length-map σ.items (reach_of σ es))) l in
      ap₂ (λ (h : List ℕ) (y : ℕ). h ++ (y ∷ [])) (reaches-front k (omega arith))
      (item-is σ es w p q rights scopes k who (own_number σ.schema es w q who) (get_or σ.items k no_item) asker (table.rows k l) refl ∙ sym (get_or-map (reach_of σ es) σ.items k no_item))
      ∙ sym (take-suc (map (reach_of σ es) σ.items) k (reach_of σ es no_item) g)

  pub reaches-are : reaches_by σ.schema es w p rights scopes q who (length σ.items) ≡ map (reach_of σ es) σ.items
  reaches-are =
      let m : length (map (reach_of σ es) σ.items) ≡ length σ.items = length-map σ.items (reach_of σ es) in
      reaches-front (length σ.items) (omega arith) ∙ take_all (length σ.items) (map (reach_of σ es) σ.items) (omega arith)
