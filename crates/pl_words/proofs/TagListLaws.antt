-- Laws of lists in which each member stands once.
use Rattle.std.proofs.Common.{◌≡◌, ◌∙◌, ◌||◌, ℕ, Bool, true, false, not, List, [], ◌∷◌, ◌++◌, ap}
use Rattle.std.proofs.Common.{◌≤◌, arith, length, refl, sym}
use Rattle.std.proofs.Common.{if◌then◌else◌, cond}
use Rattle.std.specs.Cmp.Lexicographic.{slice_cmp}
use Rattle.std.specs.List.{filter, list_all, list_any}
use Rattle.std.specs.Ordering.{is_eq, nat_cmp}
use Rattle.std.proofs.lemmas.Bool.{and_from, and_parts, cond-false, cond-true, not-true, true≢false}
use Rattle.std.proofs.lemmas.Slice.Eq.{bytes_eq-Decides}
use Rattle.std.proofs.lemmas.List.{append-nil}
use Rattle.std.proofs.lemmas.List.Elements.{filter-append}
use Rattle.std.proofs.lemmas.List.Folds.{list_any-append}
use Rattle.std.proofs.lemmas.Map.Text.{is_eq-slice_cmp}
use Rattle.std.specs.Prelude.{bytes_eq}
use Rattle.pl_base.specs.Fold.{folded}
use Rattle.pl_base.proofs.ListLaws.{filter-le, list_all-filter}
use Rattle.pl_words.specs.TagLists.{each_once, firsts, is_same_tag}

module _ {A : Type 0} (same : A → A → Bool) where
  -- none of a list that holds none but those that differ from a is the same as a
  none_same : (a : A) (xs : List A) → list_any (same a) (filter (λ y. not (same a y)) xs) ≡ false
  none_same a [] = refl
  none_same a (x ∷ xs) = choose (same a x) refl (none_same a xs)
    where
      choose : (v : Bool) → same a x ≡ v
          → list_any (same a) (filter (λ y. not (same a y)) xs) ≡ false
          → list_any (same a) (filter (λ y. not (same a y)) (x ∷ xs)) ≡ false
      choose true is rest = rw is rest
      choose false is rest = rw (is, is) rest

  any_less : (p q : A → Bool) (xs : List A) → list_any p xs ≡ false
      → list_any p (filter q xs) ≡ false
  any_less p q [] none = refl
  any_less p q (x ∷ xs) none = choose (q x) (p x) refl refl (λ e. any_less p q xs e)
    where
      choose : (v w : Bool) → q x ≡ v → p x ≡ w → (list_any p xs ≡ false
          → list_any p (filter q xs) ≡ false)
          → list_any p (filter q (x ∷ xs)) ≡ false
      choose v true is here rest = absurd (true≢false (rw here at none))
      choose true false is here rest = rw (is, here) (rest (rw here at none))
      choose false false is here rest = rw is (rest (rw here at none))

  pub once_less : (q : A → Bool) (xs : List A) → each_once same xs ≡ true
      → each_once same (filter q xs) ≡ true
  once_less q [] once = refl
  once_less q (x ∷ xs) once = choose (q x) refl (once_less q xs parts.1)
    where
      parts : (not (list_any (same x) xs) ≡ true) × (each_once same xs ≡ true)
      parts = and_parts _ _ once

      choose : (v : Bool) → q x ≡ v → each_once same (filter q xs) ≡ true
          → each_once same (filter q (x ∷ xs)) ≡ true
      choose true is rest =
          rw is (and_from _ _ (ap not (any_less (same x) q xs (not-true (list_any
          (same x) xs) parts.0))) rest)
      choose false is rest = rw is rest

  -- what is told is each once
  pub once-firsts : (xs : List A) → each_once same (firsts same xs) ≡ true
  once-firsts [] = refl
  once-firsts (x ∷ xs) =
      and_from _ _ (ap not (none_same x (firsts same xs)))
      (once_less (λ y. not (same x y)) (firsts same xs) (once-firsts xs))

  pub firsts-all : (p : A → Bool) (xs : List A) → list_all p xs ≡ true → list_all p (firsts same xs) ≡ true
  firsts-all p [] all = refl
  firsts-all p (x ∷ xs) all =
      let parts = and_parts _ _ all in
      and_from _ _ parts.0 (list_all-filter p (λ y. not (same x y)) (firsts same xs) (firsts-all p xs parts.1))

  pub firsts-le : (xs : List A) → length (firsts same xs) ≤ length xs
  firsts-le [] = omega arith
  firsts-le (x ∷ xs) = omega (arith, filter-le (λ y. not (same x y)) (firsts same xs), firsts-le xs)

module _ {A : Type 0} (same : A → A → Bool) where
  -- what is left out, being the same as y, is not the same as x
  any_kept : ((a b c : A) → same a b ≡ true → same b c ≡ true → same a c ≡ true) → (y x : A) → same y x ≡ false
      → (xs : List A) → list_any (λ z. same z x) (filter (λ z. not (same y z)) xs) ≡ list_any (λ z. same z x) xs
  any_kept chain y x differs [] = refl
  any_kept chain y x differs (z ∷ zs) =
      choose (same y z) (same z x) refl refl (any_kept chain y x differs zs)
    where
      choose : (v w : Bool) → same y z ≡ v → same z x ≡ w
          → list_any (λ u. same u x) (filter (λ u. not (same y u)) zs) ≡ list_any (λ u. same u x) zs
          → list_any (λ u. same u x) (filter (λ u. not (same y u)) (z ∷ zs)) ≡ list_any (λ u. same u x) (z ∷ zs)
      choose true true is here rest = absurd (true≢false (sym (chain y z x is here) ∙ differs))
      choose true false is here rest = rw (is, here) rest
      choose false w is here rest = rw is (ap (λ b. same z x || b) rest)

  kept_more : (y x : A) (xs : List A) (v : Bool) → same y x ≡ v
      → filter (λ z. not (same y z)) (xs ++ x ∷ []) ≡ (if v then filter (λ z. not (same y z)) xs
      else filter (λ z. not (same y z)) xs ++ x ∷ [])
  kept_more y x xs true is = filter-append (λ z. not (same y z)) xs (x ∷ []) ∙ rw is (append-nil _)
  kept_more y x xs false is = filter-append (λ z. not (same y z)) xs (x ∷ []) ∙ rw is

  -- one more that is told
  pub firsts-more : ((a b c : A) → same a b ≡ true → same b c ≡ true → same a c ≡ true) → (xs : List A) (x : A)
      → firsts same (xs ++ x ∷ []) ≡ (if list_any (λ y. same y x) (firsts same xs) then firsts same xs
      else firsts same xs ++ x ∷ [])
  firsts-more chain [] x = refl
  firsts-more chain (y ∷ ys) x =
      choose (same y x) (list_any (λ z. same z x) (firsts same ys)) refl refl (firsts-more chain ys x)
    where
      kept : List A
      kept = filter (λ z. not (same y z)) (firsts same ys)

      choose : (v w : Bool) → same y x ≡ v → list_any (λ z. same z x) (firsts same ys) ≡ w
          → firsts same (ys ++ x ∷ []) ≡ (if list_any (λ z. same z x) (firsts same ys) then firsts same ys
          else firsts same ys ++ x ∷ [])
          → firsts same (y ∷ ys ++ x ∷ []) ≡ (if list_any (λ z. same z x) (firsts same (y ∷ ys))
          then firsts same (y ∷ ys) else firsts same (y ∷ ys) ++ x ∷ [])
      choose true true is any rest = let e : firsts same (ys ++ x ∷ []) ≡ firsts same ys = rw any at rest in rw (is, e)
      choose true false is any rest =
          let e : firsts same (ys ++ x ∷ []) ≡ firsts same ys ++ x ∷ [] = rw any at rest in
          rw (is, e, kept_more y x (firsts same ys) true is)
      choose false true is any rest =
          let e : firsts same (ys ++ x ∷ []) ≡ firsts same ys = rw any at rest in
          rw (is, e, any_kept chain y x is (firsts same ys), any)
      choose false false is any rest =
          let e : firsts same (ys ++ x ∷ []) ≡ firsts same ys ++ x ∷ [] = rw any at rest in
          rw (is, e, any_kept chain y x is (firsts same ys), any, kept_more y x (firsts same ys) false is)

module _ {A : Type 0} (same : A → A → Bool) (chain : (a b c : A) → same a b ≡ true → same b c ≡ true → same a c ≡ true)
    (xs : List A) (x : A) where
  pub firsts-known : list_any (λ y. same y x) (firsts same xs) ≡ true → firsts same (xs ++ x ∷ []) ≡ firsts same xs
  firsts-known known = firsts-more same chain xs x ∙ cond-true _ _ _ known

  pub firsts-new : list_any (λ y. same y x) (firsts same xs) ≡ false
      → firsts same (xs ++ x ∷ []) ≡ firsts same xs ++ x ∷ []
  firsts-new new = firsts-more same chain xs x ∙ cond-false _ _ _ new

-- ---- tags

pub same_tags : (a b c : List ℕ) → is_same_tag a b ≡ true → is_same_tag b c ≡ true → is_same_tag a c ≡ true
same_tags a b c ab bc =
    (bytes_eq-Decides (folded a) (folded c)).1
    ((bytes_eq-Decides (folded a) (folded b)).0 ab ∙ (bytes_eq-Decides (folded b) (folded c)).0 bc)

-- one of the tags has this fold
abbrev pub has_fold : List (List ℕ) → List ℕ → Bool
has_fold tags fold = list_any (λ t. bytes_eq (folded t) fold) tags

one_or_some : (one some : Bool) → cond one true some ≡ (some || (one || false))
one_or_some true true = refl
one_or_some true false = refl
one_or_some false true = refl
one_or_some false false = refl

-- `seen` is a set of folds, told by the test of what it has
module _ (told tags : List (List ℕ)) (seen : List ℕ → Bool) (tag fold : List ℕ) (is : tags ≡ firsts is_same_tag told)
    (all : (f : List ℕ) → seen f ≡ has_fold tags f) (this : fold ≡ folded tag) where
  -- a fold was seen where the tag is the same as one of those so far
  fold_seen : list_any (λ t. is_same_tag t tag) (firsts is_same_tag told) ≡ seen fold
  fold_seen =
      ap (list_any (λ t. is_same_tag t tag)) (sym is) ∙ ap (has_fold tags) (sym this) ∙ sym (all fold)

  pub tags_known : seen fold ≡ true → tags ≡ firsts is_same_tag (told ++ tag ∷ [])
  tags_known known = is ∙ sym (firsts-known is_same_tag same_tags told tag (fold_seen ∙ known))

  pub tags_new : seen fold ≡ false → tags ++ tag ∷ [] ≡ firsts is_same_tag (told ++ tag ∷ [])
  tags_new new =
      ap (λ l. l ++ tag ∷ []) is ∙ sym (firsts-new is_same_tag same_tags told tag (fold_seen ∙ new))

  -- the set has the new fold too
  pub seen_new : (now : List ℕ → Bool)
      → ((f : List ℕ) → now f ≡ cond (is_eq (slice_cmp nat_cmp fold f)) true (seen f))
      → (f : List ℕ) → now f ≡ has_fold (tags ++ tag ∷ []) f
  seen_new now updated f =
      updated f
      ∙ ap (λ b. cond b true (seen f)) (is_eq-slice_cmp fold f ∙ ap (λ g. bytes_eq g f) this)
      ∙ ap (cond (bytes_eq (folded tag) f) true) (all f)
      ∙ one_or_some (bytes_eq (folded tag) f) (has_fold tags f)
      ∙ sym (list_any-append (λ t. bytes_eq (folded t) f) tags (tag ∷ []))
