-- Titles by their folds: one list in order of what an insertion sort of tags and what a map hold.
use Rattle.std.proofs.Common.{◌≡◌, ◌≢◌, ◌∙◌, ℕ, Bool, true, false, List, [], ◌∷◌, Option, Some, None, IfSome}
use Rattle.std.proofs.Common.{ap, arith, bytes_eq, filter, if◌then◌else◌, is_some, map, refl, subst, suc, sym}
use Rattle.std.specs.declared.cmp.Ordering.{Ordering}
use Rattle.std.specs.declared.cmp.Ordering.TheVariants.{Less, Equal, Greater}
use Rattle.std.specs.BTreeMap.{insert_entry}
use Rattle.std.specs.Cmp.Lexicographic.{slice_cmp}
use Rattle.std.specs.List.{AllByRecursion, AllPairs}
use Rattle.std.specs.List.Sorted.{IsStrictlySortedBy}
use Rattle.std.specs.Map.{keys_of, values_of}
use Rattle.std.specs.Ordering.{is_lt, match_ordering, nat_cmp, ordering_reverse}
use Rattle.std.proofs.lemmas.Bool.{false_from_ne_true, false≢true}
use Rattle.std.proofs.lemmas.Cmp.{nat_list_cmp_total, tied_itself}
use Rattle.std.proofs.lemmas.List.Elements.{recursion_from_All}
use Rattle.std.proofs.lemmas.Map.Lookups.{exact_bytes}
use Rattle.std.proofs.lemmas.Slice.Eq.{bytes_eq-Decides}
use Rattle.pl_base.specs.Fold.{folded}
use Rattle.pl_base.specs.Sorting.{put_in_place}
use Rattle.pl_base.specs.Store.{Item}
use Rattle.pl_base.specs.Tags.{by_fold, is_before}
use Rattle.pl_base.proofs.ListLaws.{all-filter, map-map, weaker}
use Rattle.pl_base.proofs.SortLaws.{all_sorted}
use Rattle.pl_base.proofs.LookUps.{both}

-- the order of texts by their bytes
abbrev pub text_cmp : List ℕ → List ℕ → Ordering
text_cmp = slice_cmp nat_cmp

-- the folds ascend
abbrev pub Ascending : List (List ℕ × List ℕ) → Type 0
Ascending es = IsStrictlySortedBy text_cmp (keys_of es)

-- the title at a fold
abbrev pub look : List ℕ → List (List ℕ × List ℕ) → Option (List ℕ)
look k [] = None
look k (e ∷ es) = if bytes_eq e.0 k then Some e.1 else look k es

is_itself : (k : List ℕ) → bytes_eq k k ≡ true
is_itself k = (bytes_eq-Decides k k).1 refl

are_apart : (j k : List ℕ) → j ≢ k → bytes_eq j k ≡ false
are_apart j k apart = false_from_ne_true (bytes_eq j k) (λ same. apart ((bytes_eq-Decides j k).0 same))

turned : (j k : List ℕ) → text_cmp j k ≡ Greater → text_cmp k j ≡ Less
turned j k is = nat_list_cmp_total.antisymm k j ∙ ap ordering_reverse is

Less≢Equal : Less ≢ Equal
Less≢Equal same = false≢true (sym (ap is_lt same))

less_apart : (j k : List ℕ) → text_cmp j k ≡ Less → j ≢ k
less_apart j k less same =
    Less≢Equal (sym less ∙ ap (text_cmp j) (sym same) ∙ tied_itself nat_list_cmp_total j)

-- ---- an entry more

all-insert : (P : List ℕ → Type 0) (k v : List ℕ) (es : List (List ℕ × List ℕ)) → AllByRecursion P (keys_of es) → P k
    → AllByRecursion P (keys_of (insert_entry text_cmp es k v))
all-insert P k v [] all new = (new, tt)
all-insert P k v (e ∷ es) all new = choose (text_cmp k e.0) (all-insert P k v es all.1 new)
  where
    choose : (r : Ordering) → AllByRecursion P (keys_of (insert_entry text_cmp es k v))
        → AllByRecursion P
        (keys_of (match_ordering r ((k, v) ∷ e ∷ es) ((e.0, v) ∷ es) (e ∷ insert_entry text_cmp es k v)))
    choose Less rest = (new, all)
    choose Equal rest = all
    choose Greater rest = (all.0, rest)

pub ascending_insert : (k v : List ℕ) (es : List (List ℕ × List ℕ)) → Ascending es
    → Ascending (insert_entry text_cmp es k v)
unfolding IsStrictlySortedBy
ascending_insert k v [] ordered = (tt, tt)
ascending_insert k v (e ∷ es) ordered = choose (text_cmp k e.0) refl (ascending_insert k v es ordered.1)
  where
    choose : (r : Ordering) → text_cmp k e.0 ≡ r → Ascending (insert_entry text_cmp es k v)
        → Ascending (match_ordering r ((k, v) ∷ e ∷ es) ((e.0, v) ∷ es) (e ∷ insert_entry text_cmp es k v))
    choose Less is rest = (
      (
        is,
        weaker (λ (j : List ℕ). text_cmp e.0 j ≡ Less) (λ (j : List ℕ). text_cmp k j ≡ Less) (keys_of es)
            (λ j above. nat_list_cmp_total.trans k e.0 j is above) ordered.0,
      ),
      ordered,
    )
    choose Equal is rest = ordered
    choose Greater is rest =
        (all-insert (λ (j : List ℕ). text_cmp e.0 j ≡ Less) k v es ordered.0 (turned k e.0 is), rest)

pick : {X : Type 0} (b : Bool) (x y z : X) → (if b then x else z) ≡ (if b then x else if b then y else z)
pick true x y z = refl
pick false x y z = refl

swap : {X : Type 0} (a b : Bool) (x y z : X) → (a ≡ true → b ≡ true → ⊥)
    → (if a then x else if b then y else z) ≡ (if b then y else if a then x else z)
swap true true x y z apart = absurd (apart refl refl)
swap true false x y z apart = refl
swap false true x y z apart = refl
swap false false x y z apart = refl

-- an entry is found as if it stood first
pub look_insert : (q k v : List ℕ) (es : List (List ℕ × List ℕ))
    → look q (insert_entry text_cmp es k v) ≡ look q ((k, v) ∷ es)
look_insert q k v [] = refl
look_insert q k v (e ∷ es) = choose (text_cmp k e.0) refl (look_insert q k v es)
  where
    choose : (r : Ordering) → text_cmp k e.0 ≡ r → look q (insert_entry text_cmp es k v) ≡ look q ((k, v) ∷ es)
        → look q (match_ordering r ((k, v) ∷ e ∷ es) ((e.0, v) ∷ es) (e ∷ insert_entry text_cmp es k v))
        ≡ look q ((k, v) ∷ e ∷ es)
    choose Less is rest = refl
    choose Equal is rest =
        pick (bytes_eq e.0 q) (Some v) (Some e.1) (look q es)
        ∙ ap (λ (j : List ℕ). if bytes_eq j q then Some v else look q (e ∷ es)) (sym (exact_bytes k e.0 is))
    choose Greater is rest =
        ap (λ (o : Option (List ℕ)). if bytes_eq e.0 q then Some e.1 else o) rest
        ∙ swap (bytes_eq e.0 q) (bytes_eq k q) (Some e.1) (Some v) (look q es)
        (λ here there.
        less_apart e.0 k (turned k e.0 is)
        ((bytes_eq-Decides e.0 q).0 here ∙ sym ((bytes_eq-Decides k q).0 there)))

-- ---- entries in order are known by what is found in them

none_above : (q : List ℕ) (es : List (List ℕ × List ℕ))
    → AllByRecursion (λ (j : List ℕ). text_cmp q j ≡ Less) (keys_of es)
    → look q es ≡ None
none_above q [] above = refl
none_above q (e ∷ es) above =
    rw (are_apart e.0 q (λ same. less_apart q e.0 above.0 (sym same))) (none_above q es above.1)

Some≢None : (v : List ℕ) → ◌≢◌ {A = Option (List ℕ)} (Some v) None
Some≢None v same = false≢true (sym (ap is_some same))

found_first : (e : List ℕ × List ℕ) (es : List (List ℕ × List ℕ)) → look e.0 (e ∷ es) ≡ Some e.1
found_first e es = rw (is_itself e.0) refl

-- what is not the first is found behind it
tails_alike : (e f : List ℕ × List ℕ) (es fs : List (List ℕ × List ℕ)) → e.0 ≡ f.0
    → AllByRecursion (λ (j : List ℕ). text_cmp e.0 j ≡ Less) (keys_of es)
    → AllByRecursion (λ (j : List ℕ). text_cmp f.0 j ≡ Less) (keys_of fs)
    → ((q : List ℕ) → look q (e ∷ es) ≡ look q (f ∷ fs)) → (q : List ℕ) → look q es ≡ look q fs
tails_alike e f es fs same above higher alike q = choose (bytes_eq e.0 q) refl
  where
    choose : (b : Bool) → bytes_eq e.0 q ≡ b → look q es ≡ look q fs
    choose true is =
        let here : e.0 ≡ q = (bytes_eq-Decides e.0 q).0 is in
        none_above q es (rw here at above)
        ∙ sym (none_above q fs (rw (sym same ∙ here) at higher))
    choose false is =
        let other : bytes_eq f.0 q ≡ false = ap (λ (j : List ℕ). bytes_eq j q) (sym same) ∙ is in
        ap (λ (b : Bool). if b then Some e.1 else look q es) (sym is) ∙ alike q
        ∙ ap (λ (b : Bool). if b then Some f.1 else look q fs) other

pub one_list : (es fs : List (List ℕ × List ℕ)) → Ascending es → Ascending fs
    → ((q : List ℕ) → look q es ≡ look q fs) → es ≡ fs
unfolding IsStrictlySortedBy
one_list [] [] ordered other alike = refl
one_list [] (f ∷ fs) ordered other alike =
    absurd (Some≢None f.1 (sym (found_first f fs) ∙ sym (alike f.0)))
one_list (e ∷ es) [] ordered other alike = absurd (Some≢None e.1 (sym (found_first e es) ∙ alike e.0))
one_list (e ∷ es) (f ∷ fs) ordered other alike = choose (text_cmp e.0 f.0) refl (one_list es fs ordered.1 other.1)
  where
    choose : (r : Ordering) → text_cmp e.0 f.0 ≡ r → (((q : List ℕ) → look q es ≡ look q fs) → es ≡ fs)
        → e ∷ es ≡ f ∷ fs
    choose Less is rest =
        absurd (Some≢None e.1 (sym (found_first e es) ∙ alike e.0
        ∙ none_above e.0 (f ∷ fs) (
          is,
          weaker (λ (j : List ℕ). text_cmp f.0 j ≡ Less)
              (λ (j : List ℕ). text_cmp e.0 j ≡ Less) (keys_of fs)
              (λ j above. nat_list_cmp_total.trans e.0 f.0 j is above) other.0,
        )))
    choose Greater is rest =
        absurd (Some≢None f.1 (sym (found_first f fs) ∙ sym (alike f.0)
        ∙ none_above f.0 (e ∷ es) (
          turned e.0 f.0 is,
          weaker (λ (j : List ℕ). text_cmp e.0 j ≡ Less)
              (λ (j : List ℕ). text_cmp f.0 j ≡ Less) (keys_of es)
              (λ j above. nat_list_cmp_total.trans f.0 e.0 j (turned e.0 f.0 is) above) ordered.0,
        )))
    choose Equal is rest =
        let same : e.0 ≡ f.0 = exact_bytes e.0 f.0 is in
        let value : Some e.1 ≡ Some f.1 =
        sym (found_first e es) ∙ alike e.0 ∙ ap (λ (j : List ℕ). look j (f ∷ fs)) same ∙ found_first f fs in
        let one : e.1 ≡ f.1 = cc in
        ap (λ (j : List ℕ). (j, e.1) ∷ es) same ∙ ap (λ (v : List ℕ). (f.0, v) ∷ es) one
        ∙ ap (λ (rest : List (List ℕ × List ℕ)). f ∷ rest)
        (rest (tails_alike e f es fs same ordered.0 other.0 alike))

-- ---- the entries of tags

-- the title of a tag, by its fold
abbrev pub tag_entry : Item → List ℕ × List ℕ
tag_entry t = (folded t.title, t.title)

-- no two of the tags have the same fold
abbrev pub Differ : List Item → Type 0
Differ [] = Unit {0}
Differ (t ∷ ts) = AllByRecursion (λ (u : Item). folded u.title ≢ folded t.title) ts × Differ ts

pub differ_named : (ts : List Item) → AllPairs (λ (a b : Item). folded a.title ≢ folded b.title) ts → Differ ts
differ_named [] pairs = tt
differ_named (t ∷ ts) pairs = (
  recursion_from_All (λ (u : Item). folded u.title ≢ folded t.title) ts
      (λ k d within same. pairs 0 (suc k) d (omega arith) (omega arith) (sym same)),
  differ_named ts (λ i j d before within. pairs (suc i) (suc j) d (omega arith) (omega arith)),
)

pub differ_filter : (test : Item → Bool) (ts : List Item) → Differ ts → Differ (filter test ts)
differ_filter test [] differ = tt
differ_filter test (t ∷ ts) differ = choose (test t) (differ_filter test ts differ.1)
  where
    choose : (b : Bool) → Differ (filter test ts) → Differ (if b then t ∷ filter test ts else filter test ts)
    choose true rest = (all-filter (λ (u : Item). folded u.title ≢ folded t.title) test ts differ.0, rest)
    choose false rest = rest

-- each tag is found by its fold
pub tags_found : (ts : List Item) → Differ ts
    → AllByRecursion (λ (t : Item). look (folded t.title) (map tag_entry ts) ≡ Some t.title) ts
tags_found [] differ = tt
tags_found (t ∷ ts) differ = (
  found_first (tag_entry t) (map tag_entry ts),
  both (λ (u : Item). folded u.title ≢ folded t.title)
      (λ (u : Item). look (folded u.title) (map tag_entry ts) ≡ Some u.title)
      (λ (u : Item). look (folded u.title) (map tag_entry (t ∷ ts)) ≡ Some u.title) ts
      (λ u other found. rw (are_apart (folded t.title) (folded u.title) (λ same. other (sym same))) found) differ.0
      (tags_found ts differ.1),
)

-- a tag goes to the same place among the tags as its entry among the entries
order_inserts : (t : Item) (ts : List Item) → AllByRecursion (λ (u : Item). folded u.title ≢ folded t.title) ts
    → map tag_entry (put_in_place is_before t ts) ≡ insert_entry text_cmp (map tag_entry ts) (folded t.title) t.title
order_inserts t [] differ = refl
order_inserts t (u ∷ us) differ =
    choose (text_cmp (folded t.title) (folded u.title)) refl (order_inserts t us differ.1)
  where
    choose : (r : Ordering) → text_cmp (folded t.title) (folded u.title) ≡ r
        → map tag_entry (put_in_place is_before t us)
        ≡ insert_entry text_cmp (map tag_entry us) (folded t.title) t.title
        → map tag_entry (if is_lt r then t ∷ u ∷ us else u ∷ put_in_place is_before t us)
        ≡ match_ordering r (tag_entry t ∷ map tag_entry (u ∷ us)) ((folded u.title, t.title) ∷ map tag_entry us)
        (tag_entry u ∷ insert_entry text_cmp (map tag_entry us) (folded t.title) t.title)
    choose Less is rest = refl
    choose Equal is rest = absurd (differ.0 (sym (exact_bytes (folded t.title) (folded u.title) is)))
    choose Greater is rest = ap (λ (es : List (List ℕ × List ℕ)). tag_entry u ∷ es) rest

pub order_ascends : (ts : List Item) → Differ ts → Ascending (map tag_entry (by_fold ts))
unfolding IsStrictlySortedBy
order_ascends [] differ = tt
order_ascends (t ∷ ts) differ =
    rw (order_inserts t (by_fold ts)
    (all_sorted is_before (λ (u : Item). folded u.title ≢ folded t.title) ts differ.0))
    (ascending_insert (folded t.title) t.title (map tag_entry (by_fold ts)) (order_ascends ts differ.1))

-- the same are found among the tags in order
pub order_looks : (q : List ℕ) (ts : List Item) → Differ ts
    → look q (map tag_entry (by_fold ts)) ≡ look q (map tag_entry ts)
order_looks q [] differ = refl
order_looks q (t ∷ ts) differ =
    ap (look q) (order_inserts t (by_fold ts)
    (all_sorted is_before (λ (u : Item). folded u.title ≢ folded t.title) ts differ.0))
    ∙ look_insert q (folded t.title) t.title (map tag_entry (by_fold ts))
    ∙ ap (λ (o : Option (List ℕ)). if bytes_eq (folded t.title) q then Some t.title else o)
    (order_looks q ts differ.1)

-- ---- entries that are found exactly where the tags are

-- what is found is the title of a tag
abbrev pub AreOfTags : List Item → List (List ℕ × List ℕ) → Type 0
AreOfTags ts es = (q : List ℕ) → IfSome (look q es) (λ v. look q (map tag_entry ts) ≡ Some v)

pub of_tags_insert : (ts : List Item) (es : List (List ℕ × List ℕ)) (title : List ℕ) → AreOfTags ts es
    → look (folded title) (map tag_entry ts) ≡ Some title
    → AreOfTags ts (insert_entry text_cmp es (folded title) title)
of_tags_insert ts es title of is q =
    subst (λ o. IfSome o (λ v. look q (map tag_entry ts) ≡ Some v)) (sym (look_insert q (folded title) title es))
    (choose (bytes_eq (folded title) q) refl)
  where
    choose : (b : Bool) → bytes_eq (folded title) q ≡ b
        → IfSome (if b then Some title else look q es) (λ v. look q (map tag_entry ts) ≡ Some v)
    choose true same =
        ap (λ (k : List ℕ). look k (map tag_entry ts)) (sym ((bytes_eq-Decides (folded title) q).0 same)) ∙ is
    choose false other = of q

-- a fold is still there when an entry joins
pub there_insert : (q k v : List ℕ) (es : List (List ℕ × List ℕ)) → is_some (look q es) ≡ true
    → is_some (look q (insert_entry text_cmp es k v)) ≡ true
there_insert q k v es there = ap is_some (look_insert q k v es) ∙ choose (bytes_eq k q)
  where
    choose : (b : Bool) → is_some (if b then Some v else look q es) ≡ true
    choose true = refl
    choose false = there

pub there_new : (k v : List ℕ) (es : List (List ℕ × List ℕ)) → is_some (look k (insert_entry text_cmp es k v)) ≡ true
there_new k v es = ap is_some (look_insert k k v es ∙ found_first (k, v) es)

none_there : (q : List ℕ) (ts : List Item) (es : List (List ℕ × List ℕ))
    → AllByRecursion (λ (t : Item). is_some (look (folded t.title) es) ≡ true) ts → look q es ≡ None
    → look q (map tag_entry ts) ≡ None
none_there q [] es all none = refl
none_there q (t ∷ ts) es all none =
    rw (are_apart (folded t.title) q
    (λ same. false≢true (sym (ap is_some (ap (λ (k : List ℕ). look k es) same ∙ none)) ∙ all.0)))
    (none_there q ts es all.1 none)

-- entries that hold the tags and nothing else are those of the tags in order
pub entries_are : (ts : List Item) (es : List (List ℕ × List ℕ)) → Differ ts → Ascending es → AreOfTags ts es
    → AllByRecursion (λ (t : Item). is_some (look (folded t.title) es) ≡ true) ts → es ≡ map tag_entry (by_fold ts)
entries_are ts es differ ordered of all =
    one_list es (map tag_entry (by_fold ts)) ordered (order_ascends ts differ)
    (λ q. alike q (look q es) refl ∙ sym (order_looks q ts differ))
  where
    alike : (q : List ℕ) (o : Option (List ℕ)) → look q es ≡ o → look q es ≡ look q (map tag_entry ts)
    alike q None none = none ∙ sym (none_there q ts es all none)
    alike q (Some v) some =
        some ∙ sym (subst (λ o. IfSome o (λ v. look q (map tag_entry ts) ≡ Some v)) some (of q))

pub titles_are : (ts : List Item) (es : List (List ℕ × List ℕ)) → es ≡ map tag_entry (by_fold ts)
    → values_of es ≡ map (λ (t : Item). t.title) (by_fold ts)
titles_are ts es is = ap values_of is ∙ map-map (λ (e : List ℕ × List ℕ). e.1) tag_entry (by_fold ts)
