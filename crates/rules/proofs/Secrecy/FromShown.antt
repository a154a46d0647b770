-- The answer to a request comes from what the requester is shown: each operation over the shown entries gives what it gives over all.
-- It holds for any sight that shows enough, so that a narrower sight serves requests that ask less.
use Rattle.std.specs.Prelude.{◌≡◌, true, false, ◌&&◌, ◌||◌, length, take}
use Rattle.std.proofs.Math.Path.{refl, ap, ap₂, subst}
use Rattle.std.proofs.Common.{sym, ◌∙◌, eqb-true}
use Prim.Native.Nat.{ℕ, zero, suc, ◌-◌}
use Rattle.std.proofs.Math.Bool.{Bool, not, cond}
use Rattle.std.proofs.Math.Option.{Option, none, some}
use mathlib.Core.List.{List, [], ◌∷◌, ◌++◌, map}
use Rattle.std.proofs.Math.Dec.{eqb}
use Rattle.rules.specs.Lists.{given, any, first, keep, is_empty}
use Rattle.rules.specs.Sheet.{Bytes, Line, line, bit}
use Rattle.rules.specs.Name.{Name, allowed, equal, same_name, child_of}
use Rattle.rules.specs.Judge.{name_lines}
use Rattle.rules.specs.Directory.{Held, Entry, Alias}
use Rattle.rules.specs.Permission.{Read, Browse, ReturnDN, DiscloseOnError, Compare, FilterMatch}
use Rattle.rules.specs.Decision.{Setting, entry, of_type, of_value, granted}
use Rattle.rules.specs.Filter.{Assertion, equality, at_least, at_most, present, substrings, Filter, truth, is_true, evaluate}
use Rattle.rules.specs.FilterItem.{asserted_type, holds, some_value, defined, satisfied, decidable, item_truth}
use Rattle.rules.specs.Request.{Selection, Ordering, Search, Operation, read, compare, list, search}
use Rattle.rules.specs.declared.Outcome.TheVariants.{Result, NoSuchObject, InsufficientAccessRights, NoSuchAttributeOrValue, InvalidAttributeSyntax}
use Rattle.rules.specs.Answer.{outcome, entry_lines, value_lines, limited, selected, or_name, type_lines, information, read_entry, compare_entry, listed, candidate, found, in_subset, disclosed, list_hit, search_hit, matched_name, no_such_object, named, opened, returned, list_hits, search_hits, answer}
use Rattle.rules.specs.Arrange.{smallest, precedes, readable, key, before, arranged}
use Rattle.rules.specs.Shown.{Sight, shown_held, shown_entry, shown_by}
use Rattle.rules.proofs.Laws.Tests.{contra, and_left, and_right, and-cong, and-cong-left, cond-cong}
use Rattle.rules.proofs.Laws.Lists.{gather-sift, keep-sift, map-reduced, any-sift, first-sift, once-sift, Once}
use Rattle.rules.proofs.Laws.Items.{own-items-decide}
use Rattle.rules.proofs.Laws.Arrange.{arranged-map}
use Rattle.rules.specs.declared.Edition.{Edition}
use Rattle.rules.specs.declared.Truth.{Truth}

-- ---- what an entry holds

-- whether a shown type is held
holds-shown : (g : Sight) (e : Entry) (t : ℕ) → g.types e.name t ≡ true → holds (shown_entry g e) t ≡ holds e t
unfolding holds shown_entry shown_held
holds-shown g e t k =
    any-sift (λ h. g.types e.name h.type) (shown_held g e.name) (λ h. eqb h.type t)
    (λ h q. rw (eqb-true h.type t q) k) (λ h q. refl) e.held

module _ (σ : Setting) (g : Sight) where
  some_value-shown : (e : Entry) (t q : ℕ) (test : Bytes → Bool) → g.types e.name t ≡ true
      → ((v : Bytes) → granted σ e.name (of_value t v) q ≡ true → g.values e.name t v ≡ true)
      → some_value σ (shown_entry g e) t q test ≡ some_value σ e t q test
  unfolding some_value shown_entry shown_held
  some_value-shown e t q test k kv =
      any-sift (λ h. g.types n h.type) (shown_held g n) passes
      (λ h r. rw (eqb-true h.type t (and_left _ _ r)) k)
      (λ h r. and-cong (eqb h.type t) _ _ (λ i. inner h (eqb-true h.type t i)))
      e.held
    where
      n : Name
      n = e.name

      fine : ℕ → Bytes → Bool
      fine s v = granted σ n (of_value s v) q && test v

      passes : Held → Bool
      passes h = eqb h.type t && any (fine h.type) h.values

      inner : (h : Held) → h.type ≡ t → any (fine h.type) (keep (g.values n h.type) h.values) ≡ any (fine h.type) h.values
      inner h i =
          any-sift (g.values n h.type) (λ v. v) (fine h.type)
          (λ v r. subst (λ s. g.values n s v ≡ true) (sym i) (kv v (subst (λ s. granted σ n (of_value s v) q ≡ true) i (and_left _ _ r))))
          (λ v r. refl) h.values

  -- the information of an entry
  information-shown : (s : Selection) (e : Entry)
      → ((t : ℕ) → granted σ e.name (of_type t) Read ≡ true → g.types e.name t ≡ true)
      → ((t : ℕ) (v : Bytes) → granted σ e.name (of_type t) Read ≡ true → granted σ e.name (of_value t v) Read ≡ true → g.values e.name t v ≡ true)
      → information σ s (shown_entry g e) ≡ information σ s e
  unfolding information type_lines shown_entry shown_held
  information-shown s e kt kv =
      gather-sift (λ h. g.types n h.type) (shown_held g n)
      (λ h. selected s h.type && granted σ n (of_type h.type) Read) (type_lines σ s n)
      (λ h r. kt h.type (and_right (selected s h.type) _ r)) (λ h r. refl)
      (λ h r. cond-cong s.values (λ i. ap (value_lines h.type) (inner h (and_right (selected s h.type) _ r))) (λ i. refl))
      e.held
    where
      n : Name
      n = e.name

      inner : (h : Held) → granted σ n (of_type h.type) Read ≡ true
          → keep (λ v. granted σ n (of_value h.type v) Read) (keep (g.values n h.type) h.values)
          ≡ keep (λ v. granted σ n (of_value h.type v) Read) h.values
      inner h r =
          gather-sift (g.values n h.type) (λ v. v) (λ v. granted σ n (of_value h.type v) Read) (λ v. v ∷ [])
          (λ v i. kv h.type v r i) (λ v i. refl) (λ v i. refl) h.values

  -- ---- filters

  module _ (e : Entry)
      (kt : (t : ℕ) → granted σ e.name (of_type t) FilterMatch ≡ true → g.types e.name t ≡ true)
      (kv : (t : ℕ) (v : Bytes) → granted σ e.name (of_value t v) FilterMatch ≡ true → g.values e.name t v ≡ true)
    where
      satisfied-shown : (a : Assertion) → granted σ e.name (of_type (asserted_type a)) FilterMatch ≡ true
          → satisfied σ (shown_entry g e) a ≡ satisfied σ e a
      unfolding satisfied asserted_type
      satisfied-shown (equality t v) m = some_value-shown e t FilterMatch _ (kt t m) (kv t)
      satisfied-shown (at_least t v) m = some_value-shown e t FilterMatch _ (kt t m) (kv t)
      satisfied-shown (at_most t v) m = some_value-shown e t FilterMatch _ (kt t m) (kv t)
      satisfied-shown (present t) m = holds-shown g e t (kt t m)
      satisfied-shown (substrings t ps) m = some_value-shown e t FilterMatch _ (kt t m) (kv t)

      item_truth-shown : (a : Assertion) → item_truth σ (shown_entry g e) a ≡ item_truth σ e a
      unfolding item_truth decidable shown_entry
      item_truth-shown a =
          cond-cong (decidable σ e a)
          (λ r. ap truth (satisfied-shown a (and_right (defined σ a) _ r))) (λ r. refl)

      -- items alone decide a filter
      filter-shown : (ed : Edition) (f : Filter) → evaluate ed (item_truth σ (shown_entry g e)) f ≡ evaluate ed (item_truth σ e) f
      filter-shown ed f = own-items-decide ed (item_truth σ (shown_entry g e)) (item_truth σ e) f (λ a k. item_truth-shown a)

  -- ---- the matched name, and the entry that is named

  module _ (shows : (n : Name) → granted σ n entry DiscloseOnError ≡ true → g.entries n ≡ true) (es : List Entry) where
    matched_name-shown : (n : Name) (k : ℕ) → matched_name σ (shown_by g es) n k ≡ matched_name σ es n k
    unfolding matched_name disclosed shown_by shown_entry
    matched_name-shown n zero = refl
    matched_name-shown n (suc k) = step (matched_name-shown n k)
      where
        known : Entry → Bool
        known = disclosed σ (take (suc k) n)

        step : matched_name σ (shown_by g es) n k ≡ matched_name σ es n k
            → or_name (matched_name σ (shown_by g es) n k) (first known (shown_by g es)) ≡ or_name (matched_name σ es n k) (first known es)
        step ih =
            ap (λ (m : Name). or_name m (first known (shown_by g es))) ih
            ∙ first-sift (λ e. g.entries e.name) (shown_entry g) (or_name (matched_name σ es n k)) known
            (λ e r. shows e.name (and_right (same_name σ.schema (take (suc k) n) e.name) _ r)) (λ e r. refl) (λ e r. refl) es

    no_such_object-shown : (op : ℕ) (n : Name) → no_such_object σ (shown_by g es) op n ≡ no_such_object σ es op n
    unfolding no_such_object
    no_such_object-shown op n = ap (λ (m : Name). outcome op NoSuchObject ++ name_lines m) (matched_name-shown n (length n - 1))

    -- the base of a list or search
    returned-shown : (op : ℕ) (n : Name) (limit : ℕ) {hits hits' : List (List Line)} → hits ≡ hits'
        → returned σ (shown_by g es) op n limit hits ≡ returned σ es op n limit hits'
    unfolding returned disclosed shown_by shown_entry
    returned-shown op n limit {hits} {hits'} same =
        λ i. cond (is_empty (same i) && not (base i)) (no_such_object-shown op n i) (limited op limit (same i))
      where
        base : any (disclosed σ n) (shown_by g es) ≡ any (disclosed σ n) es
        base =
            any-sift (λ e. g.entries e.name) (shown_entry g) (disclosed σ n)
            (λ e r. shows e.name (and_right (same_name σ.schema n e.name) _ r)) (λ e r. refl) es

    -- the entry of a read or compare
    opened-shown : (op q : ℕ) (n : Name) (f : Entry → List Line)
        → ((m : Name) → granted σ m entry q ≡ true → g.entries m ≡ true)
        → ((e : Entry) → granted σ e.name entry q ≡ true → f (shown_entry g e) ≡ f e)
        → Once (λ e. same_name σ.schema n e.name) es
        → opened σ (shown_by g es) op q n f (named σ (shown_by g es) n) ≡ opened σ es op q n f (named σ es n)
    unfolding opened named shown_by shown_entry
    opened-shown op q n f shown-open same once = absent (first wanted (shown_by g es)) ∙ present'
      where
        wanted : Entry → Bool
        wanted e = same_name σ.schema n e.name

        respond : Option Entry → List Line
        respond = opened σ es op q n f

        absent : (o : Option Entry) → opened σ (shown_by g es) op q n f o ≡ respond o
        absent none = no_such_object-shown op n
        absent (some e) =
            ap (λ (l : List Line). cond (granted σ e.name entry q) (f e) (cond (granted σ e.name entry DiscloseOnError) (outcome op InsufficientAccessRights) l)) (no_such_object-shown op n)

        hidden : (e : Entry) → g.entries e.name ≡ false → respond (some e) ≡ respond none
        hidden e h = rw (contra (granted σ e.name entry q) _ (shown-open e.name) h, contra (granted σ e.name entry DiscloseOnError) _ (shows e.name) h)

        present' : respond (first wanted (shown_by g es)) ≡ respond (first wanted es)
        present' =
            once-sift (λ e. g.entries e.name) (shown_entry g) respond wanted hidden (λ e r. refl)
            (λ e r. cond-cong (granted σ e.name entry q) (same e) (λ z. refl)) es once

  -- ---- read

  -- a sight that shows enough for reads
  pub record EnoughToRead : Type 0 where
    pub entry_read : (n : Name) → granted σ n entry Read ≡ true → g.entries n ≡ true
    pub entry_disclosed : (n : Name) → granted σ n entry DiscloseOnError ≡ true → g.entries n ≡ true
    pub type_read : (n : Name) (t : ℕ) → granted σ n entry Read ≡ true → granted σ n (of_type t) Read ≡ true → g.types n t ≡ true
    pub type_disclosed : (n : Name) (t : ℕ) → granted σ n entry Read ≡ true → granted σ n (of_type t) DiscloseOnError ≡ true → g.types n t ≡ true
    pub value_read : (n : Name) (t : ℕ) (v : Bytes) → granted σ n entry Read ≡ true → granted σ n (of_type t) Read ≡ true → granted σ n (of_value t v) Read ≡ true → g.values n t v ≡ true

  read_entry-shown : EnoughToRead → (s : Selection) (e : Entry) → granted σ e.name entry Read ≡ true → read_entry σ s (shown_entry g e) ≡ read_entry σ s e
  unfolding read_entry shown_entry shown_held
  read_entry-shown k s e m = ap₂ form info disclosed
    where
      n : Name
      n = e.name

      form : List Line → Bool → List Line
      form i d =
          cond (is_empty i && not (s.listed && is_empty s.types))
          (outcome 1 (cond d InsufficientAccessRights NoSuchAttributeOrValue))
          (outcome 1 Result ++ (entry_lines (given (granted σ n entry ReturnDN) n) ++ i))

      info : information σ s (shown_entry g e) ≡ information σ s e
      info = information-shown s e (λ t. k.type_read n t m) (λ t v. k.value_read n t v m)

      disclosed : any (λ h. selected s h.type && granted σ n (of_type h.type) DiscloseOnError) (shown_entry g e).held
          ≡ any (λ h. selected s h.type && granted σ n (of_type h.type) DiscloseOnError) e.held
      disclosed =
          any-sift (λ h. g.types n h.type) (shown_held g n) (λ h. selected s h.type && granted σ n (of_type h.type) DiscloseOnError)
          (λ h r. k.type_disclosed n h.type m (and_right (selected s h.type) _ r)) (λ h r. refl) e.held

  pub read-shown : EnoughToRead → (es : List Entry) (as' : List Alias) (n : Name) (s : Selection) → Once (λ e. same_name σ.schema n e.name) es
      → answer σ (shown_by g es) as' n (read s) ≡ answer σ es as' n (read s)
  unfolding answer
  read-shown k es as' n s once = opened-shown k.entry_disclosed es 1 Read n (read_entry σ s) k.entry_read (λ e m. read_entry-shown k s e m) once

  -- ---- compare, list and search

  -- a sight that shows enough for every request
  pub record Enough : Type 0 where
    pub entry_read : (n : Name) → granted σ n entry Read ≡ true → g.entries n ≡ true
    pub entry_returned : (n : Name) → granted σ n entry ReturnDN ≡ true → g.entries n ≡ true
    pub entry_disclosed : (n : Name) → granted σ n entry DiscloseOnError ≡ true → g.entries n ≡ true
    pub type_read : (n : Name) (t : ℕ) → granted σ n (of_type t) Read ≡ true → g.types n t ≡ true
    pub type_compared : (n : Name) (t : ℕ) → granted σ n (of_type t) Compare ≡ true → g.types n t ≡ true
    pub type_filtered : (n : Name) (t : ℕ) → granted σ n (of_type t) FilterMatch ≡ true → g.types n t ≡ true
    pub type_disclosed : (n : Name) (t : ℕ) → granted σ n (of_type t) DiscloseOnError ≡ true → g.types n t ≡ true
    pub value_read : (n : Name) (t : ℕ) (v : Bytes) → granted σ n (of_value t v) Read ≡ true → g.values n t v ≡ true
    pub value_compared : (n : Name) (t : ℕ) (v : Bytes) → granted σ n (of_value t v) Compare ≡ true → g.values n t v ≡ true
    pub value_filtered : (n : Name) (t : ℕ) (v : Bytes) → granted σ n (of_value t v) FilterMatch ≡ true → g.values n t v ≡ true

  module _ (k : Enough) where
    to_read : EnoughToRead
    to_read = record {
      entry_read = k.entry_read;
      entry_disclosed = k.entry_disclosed;
      type_read = λ n t m. k.type_read n t;
      type_disclosed = λ n t m. k.type_disclosed n t;
      value_read = λ n t v m i. k.value_read n t v;
    }

    compare_entry-shown : (t : ℕ) (v : Bytes) (e : Entry) → compare_entry σ t v (shown_entry g e) ≡ compare_entry σ t v e
    unfolding compare_entry shown_entry
    compare_entry-shown t v e =
        cond-cong (granted σ n (of_type t) Compare) (λ m. allowed' (k.type_compared n t m)) (λ m. ap (λ (b : Bool). outcome 2 (cond b InsufficientAccessRights NoSuchAttributeOrValue)) refused)
      where
        n : Name
        n = e.name

        result : Bool → Bool → List Line
        result held equal' =
            cond held (cond (allowed σ.schema t v) (outcome 2 Result ++ (line 31 (bit equal') 0 0 [] ∷ [])) (outcome 2 InvalidAttributeSyntax)) (outcome 2 NoSuchAttributeOrValue)

        allowed' : g.types n t ≡ true
            → result (holds (shown_entry g e) t) (some_value σ (shown_entry g e) t Compare (λ w. equal σ.schema t v w))
            ≡ result (holds e t) (some_value σ e t Compare (λ w. equal σ.schema t v w))
        allowed' m = ap₂ result (holds-shown g e t m) (some_value-shown e t Compare (λ w. equal σ.schema t v w) m (k.value_compared n t))

        refused : (holds (shown_entry g e) t && granted σ n (of_type t) DiscloseOnError) ≡ (holds e t && granted σ n (of_type t) DiscloseOnError)
        refused = and-cong-left _ (granted σ n (of_type t) DiscloseOnError) _ (λ m. holds-shown g e t (k.type_disclosed n t m))

    list_hits-shown : (es : List Entry) (as' : List Alias) (n : Name) → list_hits σ (shown_by g es) as' n ≡ list_hits σ es as' n
    unfolding list_hits listed list_hit shown_by shown_entry
    list_hits-shown es as' n =
        ap (map (list_hit σ as' n))
        (keep-sift (λ e. g.entries e.name) (shown_entry g) (listed σ n)
        (λ e r. k.entry_returned e.name (and_right (granted σ e.name entry Browse) _ (and_right (child_of σ.schema n e.name) _ r)))
        (λ e r. refl) es)
        ∙ map-reduced (λ e. true) (shown_entry g) (list_hit σ as' n) (λ e. refl) (keep (listed σ n) es)

    -- the key of an entry
    key-shown : (t : ℕ) (e : Entry) → key σ t (shown_entry g e) ≡ key σ t e
    unfolding key readable shown_entry shown_held
    key-shown t e =
        ap (smallest σ.schema t)
        (gather-sift (λ h. g.types n h.type) (shown_held g n) (λ h. eqb h.type t && granted σ n (of_type t) Read) (λ h. keep wanted h.values)
        (λ h r. subst (λ s. g.types n s ≡ true) (sym (of-type h r)) (k.type_read n t (and_right (eqb h.type t) _ r))) (λ h r. refl)
        (λ h r. gather-sift (g.values n h.type) (λ v. v) wanted (λ v. v ∷ [])
        (λ v i. subst (λ s. g.values n s v ≡ true) (sym (of-type h r)) (k.value_read n t v i)) (λ v i. refl) (λ v i. refl) h.values)
        e.held)
      where
        n : Name
        n = e.name

        wanted : Bytes → Bool
        wanted v = granted σ n (of_value t v) Read

        of-type : (h : Held) → (eqb h.type t && granted σ n (of_type t) Read) ≡ true → h.type ≡ t
        of-type h r = eqb-true h.type t (and_left _ _ r)

    arranged-shown : (o : Option Ordering) (xs : List Entry) → arranged σ o (map (shown_entry g) xs) ≡ map (shown_entry g) (arranged σ o xs)
    unfolding arranged before
    arranged-shown none xs = refl
    arranged-shown (some o) xs =
        arranged-map (before σ o) (before σ o) (shown_entry g)
        (λ x y. ap₂ (precedes σ.schema o.type o.falling) (key-shown o.type x) (key-shown o.type y)) xs

    hit-shown : (r : Search) (e : Entry) → search_hit σ r (shown_entry g e) ≡ search_hit σ r e
    unfolding search_hit shown_entry
    hit-shown r e =
        ap (λ (i : List Line). entry_lines e.name ++ i)
        (information-shown r.selection e (k.type_read e.name) (λ t v m. k.value_read e.name t v))

    search_hits-shown : (es : List Entry) (n : Name) (r : Search) → search_hits σ (shown_by g es) n r ≡ search_hits σ es n r
    unfolding search_hits found candidate shown_by shown_entry
    search_hits-shown es n r =
        ap (λ (xs : List Entry). map (search_hit σ r) (arranged σ r.ordering xs))
        (keep-sift (λ e. g.entries e.name) (shown_entry g) (found σ n r)
        (λ e q. k.entry_returned e.name
        (and_right (granted σ e.name entry Browse || same_name σ.schema n e.name && granted σ e.name entry Read) _
        (and_right (in_subset σ r.subset n e.name) _ (and_left (candidate σ n r.subset e) _ q))))
        (λ e q. ap (λ (t : Truth). candidate σ n r.subset e && is_true t) (filter-shown e (k.type_filtered e.name) (k.value_filtered e.name) r.edition r.filter))
        es)
        ∙ ap (map (search_hit σ r)) (arranged-shown r.ordering (keep (found σ n r) es))
        ∙ map-reduced (λ e. true) (shown_entry g) (search_hit σ r) (hit-shown r) (arranged σ r.ordering (keep (found σ n r) es))

    -- the answer comes from what is shown
    pub answer-shown : (es : List Entry) (as' : List Alias) (n : Name) → Once (λ e. same_name σ.schema n e.name) es → (o : Operation)
        → answer σ (shown_by g es) as' n o ≡ answer σ es as' n o
    unfolding answer
    answer-shown es as' n once (read s) = read-shown to_read es as' n s once
    answer-shown es as' n once (compare t v) =
        opened-shown k.entry_disclosed es 2 Read n (compare_entry σ t v) k.entry_read (λ e m. compare_entry-shown t v e) once
    answer-shown es as' n once (list limit) = returned-shown k.entry_disclosed es 3 n limit (list_hits-shown es as' n)
    answer-shown es as' n once (search r) = returned-shown k.entry_disclosed es 4 n r.limit (search_hits-shown es n r)
