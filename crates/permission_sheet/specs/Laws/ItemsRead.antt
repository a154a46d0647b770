-- The loop over the items: what is known after some of them, and what that gives where the sheet ends or an item is refused.
use Prim.Native.Nat.{ℕ, zero, suc, ◌+◌, ◌-◌, ◌*◌, ◌≤◌, ◌<◌}
use Rattle.std.specs.Prelude.{◌≡◌, refl, List, [], ◌∷◌, ◌++◌, map, get_or, replicate}
use Rattle.std.proofs.Math.Path.{sym}
use Rattle.std.proofs.Common.{ap, ◌∙◌, subst, arith, not-suc-le-zero, length-append, le-ltb, lt-ltb, eq-eqb, ne_eqb}
use Rattle.std.proofs.lemmas.List.{map-append, length-map, get_or_at}
use Rattle.std.proofs.Math.Decide.{dec_lt}
use Rattle.std.proofs.Math.ListN.{length, get_or-append, get_or-map}
use Rattle.rules.specs.Sheet.{Bytes, lines}
use Rattle.rules.specs.declared.Format.{Format}
use Rattle.rules.specs.Name.{Schema}
use Rattle.rules.specs.Judge.{Verdict, accept, refuse, refusal_of}
use Rattle.rules.specs.Permission.{Item, permission_grammar, item, items, permissions_of}
use Rattle.rules.specs.Places.{lines_at, parts_of, schema_of}
use Rattle.rules.proofs.Laws.Judge.{refused-not, accepted-is}
use Rattle.permission_sheet.specs.Noted.{ALL-RIGHTS, ALL-SCOPES, PermissionsJudged, PermissionsNoted, Table, FirstItems, ItemRow, NotedItems, items_refused}
use Rattle.rules.specs.Columns.{permission_forms}
use Rattle.rules.specs.Derived.{no_item, put_at}
use Rattle.sheet_due.specs.Lines.{seen_at, misplaced_by, no_line}
use Rattle.sheet_due.specs.Laws.Lines.{after, misplaced-at, misplaced-some}
use Rattle.permission_item.specs.Item.{item_refusal, item_lines, item_of}
use Rattle.permission_item.specs.Laws.Item.{item-is, TookItem, took-item, item-further, item-within}
use Rattle.permission_sheet.specs.Rows.{rights_row, scopes_row}
use Rattle.permission_sheet.specs.Laws.End.{not-at-end, at-end}
use Rattle.permission_sheet.specs.Laws.Rows.{filled, filled_none, filled-length, filled-rest, filled_more, filled_at}
use Rattle.permission_sheet.specs.Laws.ItemRows.{rights-long, scopes_long, row_is}
use Rattle.permission_item.specs.declared.ItemLines.{ItemLines}

abbrev rights_of : Bytes → List ItemLines → List ℕ
rights_of p its = filled (rights_row p) 8 (rights-long p) 256 its

abbrev scopes_of : List ItemLines → List ℕ
scopes_of its = filled scopes_row 7 scopes_long 256 its

-- no lines
abbrev none : ItemLines
none = record { head = no_line; base = no_line; user = no_line; target = no_line; mask = no_line }

-- `count` items before the position `at`, noted in the two arrays
pub record ItemsRead (f : Format) (p : Bytes) (S : Schema) (count at : ℕ) (rights scopes : List ℕ) : Type 0 where
  pub its : List ItemLines
  pub counted : count ≡ length its
  pub few : length its ≤ 256
  pub within : at ≤ length p
  pub took : (k : ℕ) → k < length its → TookItem f p (get_or its k none)
  pub rights-are : rights ≡ rights_of p its
  pub scopes-are : scopes ≡ scopes_of its
  pub from : items f.top S (256 - length its) (map (item_of f.width p) its) (lines_at f.width p at) ≡ items f.top S 256 [] (lines f.width p)

-- what holds of each of some elements and of one more
each_more : {A : Type 0} (P : A → Type 0) (d : A) (xs : List A) (x : A) → ((k : ℕ) → k < length xs → P (get_or xs k d)) → P x
    → (k : ℕ) → k < length (xs ++ (x ∷ [])) → P (get_or (xs ++ (x ∷ [])) k d)
each_more P d xs x h e k l = go (dec_lt k (length xs))
  where
    go : Dec (k < length xs) → P (get_or (xs ++ (x ∷ [])) k d)
    go (yes q) = subst P (sym (get_or-append xs (x ∷ []) d k q)) (h k q)
    go (no q) = subst P (sym (get_or_at xs x [] d k (omega (arith, length-append xs (x ∷ []))))) e

pub reading-start : (f : Format) (p : Bytes) (S : Schema) → ItemsRead f p S 0 0 (replicate ALL-RIGHTS 0) (replicate ALL-SCOPES 0)
reading-start f p S = record {
  its = [];
  counted = refl;
  few = omega arith;
  within = omega arith;
  took = λ k l. absurd (not-suc-le-zero l);
  rights-are = sym (filled_none (rights_row p) 8 (rights-long p) 256);
  scopes-are = sym (filled_none scopes_row 7 scopes_long 256);
  from = refl;
}

-- one item more was read, `i`: there are bytes for it, and room
pub record ItemAhead (f : Format) (p : Bytes) (S : Schema) (count at : ℕ) (i : ItemLines) : Type 0 where
  pub inside : at < length p
  pub room : count < 256
  pub is : i ≡ item_lines f p S at

module _ {f : Format} {p : Bytes} {S : Schema} {count at : ℕ} {rights scopes : List ℕ} (s : ItemsRead f p S count at rights scopes) where
  abbrev w : ℕ
  w = f.width

  pub reading-lengths : (length rights ≡ ALL-RIGHTS) × (length scopes ≡ ALL-SCOPES)
  reading-lengths = (
    ap length s.rights-are ∙ filled-length (rights_row p) 8 (rights-long p) 256 s.its s.few,
    ap length s.scopes-are ∙ filled-length scopes_row 7 scopes_long 256 s.its s.few,
  )

  module _ {i : ItemLines} (n : ItemAhead f p S count at i) where
    -- the items from here, where one more may follow
    items-on : items f.top S (256 - length s.its) (map (item_of w p) s.its) (lines_at w p at)
        ≡ item f.top S (lines_at w p at) (λ i rest. items f.top S (256 - (length s.its + 1)) (map (item_of w p) s.its ++ (i ∷ [])) rest)
    unfolding items
    items-on =
        let e : 256 - length s.its ≡ suc (256 - (length s.its + 1)) = omega (arith, s.counted, n.room) in
        rw e (not-at-end w p at _ _ n.inside)

    -- the item here decides
    items-by : items f.top S 256 [] (lines w p)
        ≡ after (item_refusal f p S at) (items f.top S (256 - (length s.its + 1)) (map (item_of w p) s.its ++ (item_of w p i ∷ [])) (lines_at w p i.mask.next))
    items-by = rw n.is (sym s.from ∙ items-on ∙ item-is f p S at _)

    -- a refusal
    item_refused : (item_refusal f p S at ≡ 0 → ⊥) → items f.top S 256 [] (lines w p) ≡ refuse (item_refusal f p S at)
    item_refused z = items-by ∙ rw (ne_eqb (item_refusal f p S at) 0 z)

    module _ (taken : item_refusal f p S at ≡ 0) where
      pub item-small : i.head.a ≤ 255
      item-small = rw n.is (took-item f p S at taken).precedence

      pub item-value : i.target.place + i.target.length ≤ length p
      item-value = rw n.is (took-item f p S at taken).value-within

      pub item-less : length p - i.mask.next < length p - at
      item-less = let h : at < i.mask.next = rw n.is (item-further f p S at taken) in omega (arith, n.inside)

      -- one item more
      pub reading-on : {rights' scopes' : List ℕ} → rights' ≡ put_at rights (count * 8) (rights_row p i) → scopes' ≡ put_at scopes (count * 7) (scopes_row i)
          → ItemsRead f p S (count + 1) i.mask.next rights' scopes'
      reading-on er es =
          let l : length (s.its ++ (i ∷ [])) ≡ length s.its + 1 = length-append s.its (i ∷ []) in
          record {
            its = s.its ++ (i ∷ []);
            counted = omega (arith, s.counted);
            few = omega (arith, s.counted, n.room);
            within = rw n.is (item-within f p S at taken);
            took = each_more (TookItem f p) none s.its i s.took (rw n.is (took-item f p S at taken));
            rights-are = er ∙ rw (s.rights-are, s.counted) (filled_more (rights_row p) 8 (rights-long p) 256 s.its i (omega (arith, s.counted, n.room)));
            scopes-are = es ∙ rw (s.scopes-are, s.counted) (filled_more scopes_row 7 scopes_long 256 s.its i (omega (arith, s.counted, n.room)));
            from = rw (l, map-append (item_of w p) s.its (i ∷ [])) (sym (items-by ∙ rw (eq-eqb (item_refusal f p S at) 0 taken)));
          }

  -- over the count
  items-over : at < length p → 256 ≤ count → items f.top S 256 [] (lines w p) ≡ refuse (misplaced_by 10 (seen_at (permission_forms f.top) w p at))
  unfolding items
  items-over h l =
      let e : 256 - length s.its ≡ 0 = omega (arith, s.counted) in
      sym s.from ∙ rw e (not-at-end w p at (map (item_of w p) s.its) _ h ∙ misplaced-at (permission_grammar f.top S) w p at)

  -- the sheet's end
  items-end : length p ≤ at → items f.top S 256 [] (lines w p) ≡ accept (map (item_of w p) s.its)
  unfolding items
  items-end h = sym s.from ∙ go (256 - length s.its)
    where
      go : (n : ℕ) → items f.top S n (map (item_of w p) s.its) (lines_at w p at) ≡ accept (map (item_of w p) s.its)
      go zero = at-end w p at (map (item_of w p) s.its) _ h
      go (suc n) = at-end w p at (map (item_of w p) s.its) _ h

  item-at : (k : ℕ) → get_or (map (item_of w p) s.its) k no_item ≡ item_of w p (get_or s.its k none)
  unfolding item_of parts_of
  item-at k = get_or-map (item_of w p) s.its k none

  reading-rows : (k : ℕ) → k < length s.its → ItemRow w p (item_of w p (get_or s.its k none)) (λ j. get_or rights (k * 8 + j) 0) (λ j. get_or scopes (k * 7 + j) 0)
  reading-rows k l =
      row_is f p (get_or s.its k none) (s.took k l) (λ j. get_or rights (k * 8 + j) 0) (λ j. get_or scopes (k * 7 + j) 0)
      (λ j h. rw s.rights-are (filled_at (rights_row p) 8 (rights-long p) 256 none s.its k j l h))
      (λ j h. rw s.scopes-are (filled_at scopes_row 7 scopes_long 256 none s.its k j l h))

  reading-types : (k : ℕ) → k < length s.its → (item_of w p (get_or s.its k none)).type ≤ f.top
  unfolding item_of
  reading-types k l = (s.took k l).type

  reading-table : Table w p (map (item_of w p) s.its) rights scopes
  reading-table =
      let n : length (map (item_of w p) s.its) ≡ length s.its = length-map s.its (item_of w p) in
      record {
        few = rw n s.few;
        rows = λ k l. rw (item-at k) (reading-rows k (rw n at l));
        rights-length = reading-lengths.0;
        scopes-length = reading-lengths.1;
        rights-rest = rw (n, s.rights-are) (filled-rest (rights_row p) 8 (rights-long p) 256 s.its);
        scopes-rest = rw (n, s.scopes-are) (filled-rest scopes_row 7 scopes_long 256 s.its);
      }

  reading-noted : PermissionsNoted f p (map (item_of w p) s.its) (record { refusal = 0; count = count }) rights scopes
  reading-noted =
      let n : length (map (item_of w p) s.its) ≡ length s.its = length-map s.its (item_of w p) in
      record { refusal = refl; count = s.counted ∙ sym n; table = reading-table; types = λ k l. rw (item-at k) (reading-types k (rw n at l)) }

  reading-begun : FirstItems f p S rights scopes
  reading-begun = record { first = map (item_of w p) s.its; at = at; from = let n : length (map (item_of w p) s.its) ≡ length s.its = length-map s.its (item_of w p) in rw n s.from; table = reading-table }

-- ---- what is given

module _ (f : Format) (p : Bytes) (schema : List ℕ) where
  judged-refused : {n : ℕ} {rights scopes : List ℕ} → FirstItems f p (schema_of schema) rights scopes → permissions_of f (schema_of schema) p ≡ refuse n → (n ≡ 0 → ⊥) → PermissionsJudged f p schema (items_refused n) rights scopes
  judged-refused {n} b e z = record {
    refusal = sym (ap refusal_of e);
    accepted = λ q. absurd (z q);
    noted = λ is q. absurd (refused-not n is (sym e ∙ q));
    nothing = λ m q. let h : n ≡ m = cc in (ap items_refused h, b);
  }

  judged-accepted : {r : NotedItems} {rights scopes : List ℕ} {is : List Item} → permissions_of f (schema_of schema) p ≡ accept is → PermissionsNoted f p is r rights scopes → PermissionsJudged f p schema r rights scopes
  judged-accepted {r} {rights} {scopes} {is} e n = record {
    refusal = n.refusal ∙ sym (ap refusal_of e);
    accepted = λ q. (is, e);
    noted = λ js q. subst (λ (x : List Item). PermissionsNoted f p x r rights scopes) (accepted-is (sym e ∙ q)) n;
    nothing = λ m q. absurd (refused-not m is (sym q ∙ e));
  }

  -- too long
  pub judged-long : 65536 < length p → PermissionsJudged f p schema (items_refused 11) (replicate ALL-RIGHTS 0) (replicate ALL-SCOPES 0)
  unfolding permissions_of
  judged-long h = judged-refused (reading-begun (reading-start f p (schema_of schema))) (rw (lt-ltb 65536 (length p) h)) (λ e. omega arith)

  module _ (h : length p ≤ 65536) where
    by-items : {v : Verdict (List Item)} → items f.top (schema_of schema) 256 [] (lines f.width p) ≡ v → permissions_of f (schema_of schema) p ≡ v
    unfolding permissions_of
    by-items e = rw (le-ltb 65536 (length p) h) e

    module _ {count at : ℕ} {rights scopes : List ℕ} (s : ItemsRead f p (schema_of schema) count at rights scopes) where
      -- at the sheet's end
      pub judged-end : length p ≤ at → PermissionsJudged f p schema (record { refusal = 0; count = count }) rights scopes
      judged-end l = judged-accepted (by-items (items-end s l)) (reading-noted s)

      -- over the count
      pub judged-over : at < length p → 256 ≤ count → {n : ℕ} → n ≡ misplaced_by 10 (seen_at (permission_forms f.top) f.width p at) → PermissionsJudged f p schema (items_refused n) rights scopes
      judged-over g l e = rw e (judged-refused (reading-begun s) (by-items (items-over s g l)) (misplaced-some 10 (seen_at (permission_forms f.top) f.width p at)))

      -- at an item that is refused
      pub judged-item : {i : ItemLines} → ItemAhead f p (schema_of schema) count at i → (item_refusal f p (schema_of schema) at ≡ 0 → ⊥)
          → PermissionsJudged f p schema (items_refused (item_refusal f p (schema_of schema) at)) rights scopes
      judged-item n z = judged-refused (reading-begun s) (by-items (item_refused s n z)) z
