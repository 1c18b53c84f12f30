-- What one piece more makes of what is told.
use Rattle.std.proofs.Common.{◌≡◌, ◌∙◌, ℕ, Bool, true, false, List, [], ◌∷◌, ◌++◌, Option, Some, None, add-zero, ap}
use Rattle.std.proofs.Common.{append_assoc, arith, drop, get_or, length, map, suc, take, ◌<◌, refl, subst, sym, ◌+◌}
use Rattle.std.specs.Borrow.{Bor}
use Rattle.std.specs.List.{cons_option, filter, filter_map, find}
use Rattle.std.specs.Option.{option_and_then, option_map, option_or, option_to_list}
use Rattle.std.proofs.lemmas.List.{append-nil, length-map, map-append}
use Rattle.std.proofs.lemmas.List.Elements.{filter-append, filter_map-append}
use Rattle.std.proofs.Math.Seq.{split_at}
use Rattle.std.proofs.lemmas.List.Folds.{find-append}
use Rattle.pl_place.specs.declared.draft.Draft.{Draft}
use Rattle.pl_place.specs.declared.key.Key.{Key}
use Rattle.pl_place.specs.declared.key.Key.TheVariants as key
use Rattle.pl_place.specs.Draft.{Gathers, Holds, told_now, told_too, with_value}
use Rattle.pl_place.specs.PlaceText.{Piece, all_told, first_bad, is_bad, is_key, key_text, last_text}
use Rattle.pl_place.specs.PlaceText.{numbered, piece_of, told, value_of, values}
use Rattle.pl_place.specs.Keys.{key_named}
use Rattle.pl_place.specs.Values.{count_of, domain_of, is_value, parent_of, query_type_of, result_type_of, sort_of}
use Rattle.pl_place.specs.Values.{text_of, time_of, time_ref_of, transition_of, truth_of, uri_of}
use Rattle.pl_base.specs.NumberText.{number_32_of}
use Rattle.pl_words.specs.TagName.{tag_named}

module _ (k : Key) (pieces : List Piece) (p : Piece) where
  values-append : values k (pieces ++ p ∷ []) ≡ values k pieces ++ values k (p ∷ [])
  values-append =
      ap (map (λ (piece : Piece). piece.value)) (filter-append (λ (piece : Piece). is_key k piece.key) pieces (p ∷ []))
      ∙ map-append (λ (piece : Piece). piece.value) (filter (λ (piece : Piece). is_key k piece.key) pieces)
      (filter (λ (piece : Piece). is_key k piece.key) (p ∷ []))

  values-same : is_key k p.key ≡ true → values k (pieces ++ p ∷ []) ≡ values k pieces ++ p.value ∷ []
  values-same same = values-append ∙ rw same

  values-other : is_key k p.key ≡ false → values k (pieces ++ p ∷ []) ≡ values k pieces
  values-other other = values-append ∙ rw other (append-nil (values k pieces))

last_text-push : (texts : List (List ℕ)) (text : List ℕ) → last_text (texts ++ text ∷ []) ≡ Some text
last_text-push [] text = refl
last_text-push (t ∷ []) text = refl
last_text-push (t ∷ u ∷ texts) text = last_text-push (u ∷ texts) text

gathered_one : {X A : Type 0} (form : X → Option A) (x : X) → filter_map form (x ∷ []) ≡ option_to_list (form x)
gathered_one {A = A} form x = choose (form x)
  where
    choose : (said : Option A) → cons_option said [] ≡ option_to_list said
    choose None = refl
    choose (Some x) = refl

module _ {A : Type 0} (form : List ℕ → Option A) (k : Key) (pieces : List Piece) (p : Piece) where
  pub told-more : told form k (pieces ++ p ∷ []) ≡ told_now k p.key (form p.value) (told form k pieces)
  told-more = choose (is_key k p.key) refl
    where
      choose : (v : Bool) → is_key k p.key ≡ v
          → told form k (pieces ++ p ∷ []) ≡ told_now k p.key (form p.value) (told form k pieces)
      choose true same = rw same (ap (λ texts. option_and_then form (last_text texts)) (values-same k pieces p same)
          ∙ ap (option_and_then form) (last_text-push (values k pieces) p.value))
      choose false other =
          rw other (ap (λ texts. option_and_then form (last_text texts)) (values-other k pieces p other))

  pub all_told-more : all_told form k (pieces ++ p ∷ []) ≡ told_too k p.key (form p.value) (all_told form k pieces)
  all_told-more = choose (is_key k p.key) refl
    where
      choose : (v : Bool) → is_key k p.key ≡ v
          → all_told form k (pieces ++ p ∷ []) ≡ told_too k p.key (form p.value) (all_told form k pieces)
      choose true same = rw same (ap (filter_map form) (values-same k pieces p same)
          ∙ filter_map-append form (values k pieces) (p.value ∷ [])
          ∙ ap (λ l. all_told form k pieces ++ l) (gathered_one form p.value))
      choose false other = rw other (ap (filter_map form) (values-other k pieces p other))

module _ (pieces : List Piece) (p : Piece) where
  now : {A : Type 0} (form : List ℕ → Option A) (k : Key) (old : Option A) → old ≡ told form k pieces
      → told_now k p.key (form p.value) old ≡ told form k (pieces ++ p ∷ [])
  now form k old is = ap (told_now k p.key (form p.value)) is ∙ sym (told-more form k pieces p)

  too : {A : Type 0} (form : List ℕ → Option A) (k : Key) (old : List A) → old ≡ all_told form k pieces
      → told_too k p.key (form p.value) old ≡ all_told form k (pieces ++ p ∷ [])
  too form k old is = ap (told_too k p.key (form p.value)) is ∙ sym (all_told-more form k pieces p)

  pub holds_more : (d : Draft) → Holds pieces d → Holds (pieces ++ p ∷ []) (with_value p.key p.value d)
  holds_more d h =
      record {
        begin_time = now time_of key.BeginTime d.begin_time h.begin_time;
        begin_ref = now time_ref_of key.BeginTimeRef d.begin_ref h.begin_ref;
        end_time = now time_of key.EndTime d.end_time h.end_time;
        end_ref = now time_ref_of key.EndTimeRef d.end_ref h.end_ref;
        terms = now text_of key.Terms d.terms h.terms;
        min_visits = now count_of key.MinVisits d.min_visits h.min_visits;
        max_visits = now count_of key.MaxVisits d.max_visits h.max_visits;
        only_bookmarked = now truth_of key.OnlyBookmarked d.only_bookmarked h.only_bookmarked;
        domain_is_host = now truth_of key.DomainIsHost d.domain_is_host h.domain_is_host;
        domain = now domain_of key.Domain d.domain h.domain;
        uri = now uri_of key.Uri d.uri h.uri;
        parents = too parent_of key.Parent d.parents h.parents;
        tags = too tag_named key.Tag d.tags h.tags;
        not_tags = now truth_of key.NotTags d.not_tags h.not_tags;
        transitions = too transition_of key.Transition d.transitions h.transitions;
        sort = now sort_of key.Sort d.sort h.sort;
        result_type = now result_type_of key.Type d.result_type h.result_type;
        query_type = now query_type_of key.QueryType d.query_type h.query_type;
        include_hidden = now truth_of key.IncludeHidden d.include_hidden h.include_hidden;
        max_results = now number_32_of key.MaxResults d.max_results h.max_results;
        exclude_queries = now truth_of key.ExcludeQueries d.exclude_queries h.exclude_queries;
      }

-- ---- what is refused

none_found : (found : Option Piece) → option_map (λ (piece : Piece). piece.number) found ≡ None → found ≡ None
none_found None none = refl
none_found (Some piece) none = absurd (cc)

-- where none of the front is refused, the first is that of the rest
pub first_bad-append : (front back : List Piece) → first_bad front ≡ None → first_bad (front ++ back) ≡ first_bad back
first_bad-append front back none =
    ap (option_map (λ (piece : Piece). piece.number))
    (find-append is_bad front back
    ∙ ap (λ found. option_or found (find is_bad back)) (none_found (find is_bad front) none))

-- what is refused of the front is refused of the whole
pub first_bad-front : (front back : List Piece) (n : ℕ) → first_bad front ≡ Some n → first_bad (front ++ back) ≡ Some n
first_bad-front front back n bad =
    ap (option_map (λ (piece : Piece). piece.number)) (find-append is_bad front back) ∙ kept (find is_bad front) bad
  where
    kept : (found : Option Piece) → option_map (λ (piece : Piece). piece.number) found ≡ Some n
        → option_map (λ (piece : Piece). piece.number) (option_or found (find is_bad back)) ≡ Some n
    kept None is = absurd (cc)
    kept (Some piece) is = is

-- ---- pieces of a text

module _ (number : ℕ) (piece : List ℕ) where
  one : Key → Piece
  one k = record { number = number; key = k; value = value_of piece }

  piece_is : (k : Key) → Some k ≡ key_named (key_text piece) → option_to_list (piece_of (number, piece)) ≡ one k ∷ []
  unfolding one
  piece_is k named = rw (← named)

  -- a piece whose key is not known says nothing
  pub gathers_none : (front : List Piece) (d : Draft) → None ≡ key_named (key_text piece) → Gathers front d
      → Gathers (front ++ option_to_list (piece_of (number, piece))) d
  gathers_none front d unknown g =
      let none : option_to_list (piece_of (number, piece)) ≡ [] = rw (← unknown) in
      subst (λ pieces. Gathers pieces d) (sym (ap (λ l. front ++ l) none ∙ append-nil front)) g

  -- a piece whose value is of its form
  pub gathers_one : (front : List Piece) (d : Draft) (k : Key) → Some k ≡ key_named (key_text piece)
      → true ≡ is_value k (value_of piece) → Gathers front d
      → Gathers (front ++ option_to_list (piece_of (number, piece))) (with_value k (value_of piece) d)
  unfolding one
  gathers_one front d k named formed g =
      subst (λ l. Gathers (front ++ l) (with_value k (value_of piece) d)) (sym (piece_is k named))
      (record {
        held = holds_more front (one k) d g.held;
        taken = first_bad-append front (one k ∷ []) g.taken ∙ rw (← formed);
      })

  -- a piece whose value is not
  pub bad_one : (k : Key) → Some k ≡ key_named (key_text piece) → false ≡ is_value k (value_of piece)
      → first_bad (option_to_list (piece_of (number, piece))) ≡ Some number
  unfolding one
  bad_one k named bad = ap first_bad (piece_is k named) ∙ rw (← bad)

-- ---- the loop over all pieces

-- the pieces that these texts are
abbrev pub pieces_from : List (List ℕ) → List Piece
pieces_from texts = filter_map piece_of (numbered 1 texts)

numbered-append : (n : ℕ) (xs ys : List (List ℕ)) → numbered n (xs ++ ys) ≡ numbered n xs ++ numbered (n + length xs) ys
numbered-append n [] ys = ap (λ m. numbered m ys) (sym (add-zero n))
numbered-append n (x ∷ xs) ys =
    ap (λ l. (n, x) ∷ l) (numbered-append (n + 1) xs ys ∙ ap (λ m. numbered (n + 1) xs ++ numbered m ys) (omega arith))

pub pieces_from-append : (xs ys : List (List ℕ))
    → pieces_from (xs ++ ys) ≡ pieces_from xs ++ filter_map piece_of (numbered (1 + length xs) ys)
pieces_from-append xs ys =
    ap (filter_map piece_of) (numbered-append 1 xs ys)
    ∙ filter_map-append piece_of (numbered 1 xs) (numbered (1 + length xs) ys)

pub pieces_from-more : (xs : List (List ℕ)) (x : List ℕ) (n : ℕ) → n ≡ 1 + length xs
    → pieces_from (xs ++ x ∷ []) ≡ pieces_from xs ++ option_to_list (piece_of (n, x))
pieces_from-more xs x n is =
    pieces_from-append xs (x ∷ []) ∙ ap (λ l. pieces_from xs ++ l) (gathered_one piece_of (1 + length xs, x))
    ∙ ap (λ m. pieces_from xs ++ option_to_list (piece_of (m, x))) (sym is)

-- the texts that were cut off so far
abbrev pub texts_of : List (Bor (List ℕ)) → List (List ℕ)
texts_of cut = map (λ (piece : Bor (List ℕ)). piece.now) cut

pub pieces_from-cut : (cut : List (Bor (List ℕ))) (x : Bor (List ℕ)) (n : ℕ) → n ≡ length cut
    → pieces_from (texts_of (cut ++ x ∷ []))
    ≡ pieces_from (texts_of cut) ++ option_to_list (piece_of (n + 1, x.now))
pieces_from-cut cut x n is =
    ap pieces_from (map-append (λ (piece : Bor (List ℕ)). piece.now) cut (x ∷ []))
    ∙ pieces_from-more (texts_of cut) x.now (n + 1)
    (omega (arith, length-map cut (λ (piece : Bor (List ℕ)). piece.now)))

-- a piece that is refused, behind others that are not, is the first of all that is
pub first_bad-turn : (all xs : List (List ℕ)) (x : List ℕ) (k n at : ℕ) → xs ≡ take k all → k ≡ length xs
    → k < length all → x ≡ get_or all k x → n ≡ 1 + length xs → first_bad (pieces_from xs) ≡ None
    → first_bad (option_to_list (piece_of (n, x))) ≡ Some at → first_bad (pieces_from all) ≡ Some at
first_bad-turn all xs x k n at front count within here number taken bad =
    ap (λ texts. first_bad (pieces_from texts)) whole
    ∙ ap first_bad (pieces_from-append (xs ++ x ∷ []) (drop (suc k) all))
    ∙ first_bad-front (pieces_from (xs ++ x ∷ []))
    (filter_map piece_of (numbered (1 + length (xs ++ x ∷ [])) (drop (suc k) all))) at
    (ap first_bad (pieces_from-more xs x n number)
    ∙ first_bad-append (pieces_from xs) (option_to_list (piece_of (n, x))) taken ∙ bad)
  where
    whole : all ≡ (xs ++ x ∷ []) ++ drop (suc k) all
    whole =
        split_at all k x within
        ∙ ap (λ l. l ++ get_or all k x ∷ drop (suc k) all) (sym front)
        ∙ ap (λ y. xs ++ y ∷ drop (suc k) all) (sym here)
        ∙ sym (append_assoc xs (x ∷ []) (drop (suc k) all))

pub first_bad-cut : (all : List (List ℕ)) (cut : List (Bor (List ℕ))) (x : Bor (List ℕ)) (n at : ℕ)
    → texts_of cut ≡ take (length cut) all → (length cut < length all) × (x.now ≡ get_or all (length cut) x.now)
    → n ≡ length cut → first_bad (pieces_from (texts_of cut)) ≡ None
    → first_bad (option_to_list (piece_of (n + 1, x.now))) ≡ Some at → first_bad (pieces_from all) ≡ Some at
first_bad-cut all cut x n at front turn number taken bad =
    let same = length-map cut (λ (piece : Bor (List ℕ)). piece.now) in
    first_bad-turn all (texts_of cut) x.now (length cut) (n + 1) at front (sym same) turn.0 turn.1
    (omega (arith, same)) taken bad
