-- What the origins and the names that were seen stand for.
use Rattle.std.proofs.Common.{◌≡◌, ◌∙◌, ◌≤◌, ◌&&◌, ◌==◌, ◌++◌, ◌+◌, ℕ, Bool, true, false, cond, not}
use Rattle.std.proofs.Common.{List, [], ◌∷◌, Some, ap, arith, bytes_eq, eq-eqb, get_or}
use Rattle.std.proofs.Common.{if◌then◌else◌, length, map, refl, sym}
use Rattle.std.specs.List.{list_any, position_or_len}
use Rattle.std.proofs.lemmas.Bool.{and_from, eqb-true}
use Rattle.std.proofs.lemmas.List.{length-map, length_push, map_push}
use Rattle.std.proofs.lemmas.List.Elements.{All-nil}
use Rattle.std.proofs.lemmas.Slice.Eq.{bytes_eq-Decides}
use Rattle.indexmap.specs.IndexSet.{insert_key}
use Rattle.pl_base.specs.declared.id.Slot.{Slot}
use Rattle.pl_base.specs.Address.{are_same, origin_of_url, same_origin}
use Rattle.pl_base.specs.Live.{origin_count}
use Rattle.pl_base.proofs.IdsLaws.{same_slot}
use Rattle.pl_base.proofs.ListLaws.{list_any-map, map-map}
use Rattle.pl_base.proofs.OriginLaws.{new_origins-append, same_origin-sym, same_origin-trans}
use Rattle.pl_base.proofs.Truths.{same_tests}
use Rattle.pl_origins.specs.declared.names.Origin.{Origin}
use Rattle.pl_origins.specs.Keys.{key_of}
use Rattle.pl_origins.specs.Names.{AreAlike, AreNamed, Named}
use Rattle.pl_origins.proofs.Firsts.{Agree, AreFirsts, IsKind, agree_more, firsts_more, same_any}
use Rattle.pl_origins.proofs.Firsts.{same_place, seen_before}

-- ---- the two tests

-- two URLs have the same origin
abbrev pub share_origin : Named → Named → Bool
share_origin a b = same_origin a.url b.url

-- two URLs have the same name
abbrev pub share_name : Named → Named → Bool
share_name a b = a.name.0 == b.name.0

by_origin : IsKind share_origin
by_origin =
    record {
      back = λ a b h. same_origin-sym a.url b.url h;
      on = λ a b c g h. same_origin-trans a.url b.url c.url g h;
    }

by_name : IsKind share_name
by_name =
    record {
      back = λ a b h. eq-eqb b.name.0 a.name.0 (sym (eqb-true a.name.0 b.name.0 h));
      on = λ a b c g h.
          eq-eqb a.name.0 c.name.0 (eqb-true a.name.0 b.name.0 g ∙ eqb-true b.name.0 c.name.0 h);
    }

agrees : (a b : Named) → AreAlike a b → share_origin a b ≡ share_name a b
agrees a b h =
    same_tests (share_origin a b) (share_name a b)
    (λ same. eq-eqb a.name.0 b.name.0 (ap (λ (s : Slot). s.0) (h.1 same)))
    (λ same. h.0 (same_slot a.name b.name (eqb-true a.name.0 b.name.0 same)))

alike : (a b : Named) → share_origin a b ≡ share_name a b → AreAlike a b
alike a b h = (
  λ same. h ∙ eq-eqb a.name.0 b.name.0 (ap (λ (s : Slot). s.0) same),
  λ same. same_slot a.name b.name (eqb-true a.name.0 b.name.0 (sym h ∙ same)),
)

agree_from : (urls : List Named) → AreNamed urls → Agree share_origin share_name urls
agree_from urls h k d within i e inside = agrees (get_or urls k d) (get_or urls i e) (h k d within i e inside)

named_from : (urls : List Named) → Agree share_origin share_name urls → AreNamed urls
named_from urls h k d within i e inside = alike (get_or urls k d) (get_or urls i e) (h k d within i e inside)

-- ---- where a key stands

place_by : {X : Type 0} (t : X → Bool) (xs : List X) → position_or_len (λ b. b) (map t xs) ≡ position_or_len t xs
place_by t [] = refl
place_by t (x ∷ xs) = ap (λ n. cond (not (t x)) (1 + n) 0) (place_by t xs)

same_places : {X Y : Type 0} (t : X → Bool) (u : Y → Bool) (xs : List X) (ys : List Y) → map t xs ≡ map u ys
    → position_or_len t xs ≡ position_or_len u ys
same_places t u xs ys same = sym (place_by t xs) ∙ ap (position_or_len (λ b. b)) same ∙ place_by u ys

same_anys : {X Y : Type 0} (t : X → Bool) (u : Y → Bool) (xs : List X) (ys : List Y) → map t xs ≡ map u ys
    → list_any t xs ≡ list_any u ys
same_anys t u xs ys same =
    sym (list_any-map (λ b. b) t xs) ∙ ap (list_any (λ b. b)) same ∙ list_any-map (λ b. b) u ys

-- two origins have the same prefix and the same host
abbrev pub is_equal : Origin → Origin → Bool
is_equal a b = bytes_eq a.prefix b.prefix && bytes_eq a.host b.host

-- two names are the same
abbrev pub is_slot : Slot → Slot → Bool
is_slot a b = a.0 == b.0

origin_tests : (origins : List Origin) (firsts : List Named) (origin : Origin) (a : Named)
    → map (λ o. Some (key_of o)) origins ≡ map (λ (f : Named). origin_of_url f.url) firsts
    → origin_of_url a.url ≡ Some (key_of origin) → map (is_equal origin) origins ≡ map (share_origin a) firsts
origin_tests origins firsts origin a same own =
    let key = Some (key_of origin) in
    sym (map-map (are_same key) (λ o. Some (key_of o)) origins) ∙ ap (map (are_same key)) same
    ∙ map-map (are_same key) (λ (f : Named). origin_of_url f.url) firsts
    ∙ ap (λ k. map (λ (f : Named). are_same k (origin_of_url f.url)) firsts) (sym own)

name_tests : (names : List Slot) (firsts : List Named) (a : Named) → names ≡ map (λ (f : Named). f.name) firsts
    → map (is_slot a.name) names ≡ map (share_name a) firsts
name_tests names firsts a same =
    ap (map (is_slot a.name)) same ∙ map-map (is_slot a.name) (λ (f : Named). f.name) firsts

-- ---- what was seen

-- the origins and the names are those of the first URL of each origin
pub record Stands (origins : List Origin) (names : List Slot) (seen : List Named) : Type 0 where
  pub firsts : List Named
  pub origins_of : map (λ o. Some (key_of o)) origins ≡ map (λ (f : Named). origin_of_url f.url) firsts
  pub names_of : names ≡ map (λ (f : Named). f.name) firsts
  pub are : AreFirsts share_origin share_name firsts seen
  pub counted : length firsts ≡ origin_count (map (λ (f : Named). f.url) seen)
  pub few : length firsts ≤ length seen

pub nothing_stands : Stands [] [] []
nothing_stands =
    record {
      firsts = [];
      origins_of = refl;
      names_of = refl;
      are = record { among = All-nil _; covered = All-nil _; agree = All-nil _ };
      counted = refl;
      few = omega arith;
    }

place_of_origin : (origins : List Origin) (names : List Slot) (seen : List Named) (origin : Origin) (a : Named)
    (h : Stands origins names seen) → origin_of_url a.url ≡ Some (key_of origin)
    → position_or_len (is_equal origin) origins ≡ position_or_len (share_origin a) h.firsts
place_of_origin origins names seen origin a h own =
    same_places (is_equal origin) (share_origin a) origins h.firsts
    (origin_tests origins h.firsts origin a h.origins_of own)

place_of_name : (origins : List Origin) (names : List Slot) (seen : List Named) (a : Named)
    (h : Stands origins names seen) → position_or_len (is_slot a.name) names ≡ position_or_len (share_name a) h.firsts
place_of_name origins names seen a h =
    same_places (is_slot a.name) (share_name a) names h.firsts (name_tests names h.firsts a h.names_of)

-- a URL of a page, with its name, has the same number by both
pub numbers_same : (origins : List Origin) (names : List Slot) (seen : List Named) (origin : Origin) (a : Named)
    → Stands origins names seen → origin_of_url a.url ≡ Some (key_of origin) → AreNamed (seen ++ a ∷ [])
    → position_or_len (is_equal origin) origins ≡ position_or_len (is_slot a.name) names
numbers_same origins names seen origin a h own all =
    place_of_origin origins names seen origin a h own
    ∙ same_place share_origin share_name h.firsts seen a h.are (agree_from (seen ++ a ∷ []) all)
    ∙ sym (place_of_name origins names seen a h)

-- ---- one more URL

url_count : (b : Bool) (n : ℕ) → n + ((if b then 0 else 1) + 0) ≡ (if b then n else n + 1)
url_count true n = omega arith
url_count false n = omega arith

counted_more : (seen : List Named) (a : Named) (b : Bool) (n : ℕ) → list_any (share_origin a) seen ≡ b
    → n ≡ origin_count (map (λ (f : Named). f.url) seen)
    → (if b then n else n + 1) ≡ origin_count (map (λ (f : Named). f.url) (seen ++ a ∷ []))
counted_more seen a b n before counted =
    let urls : List (List ℕ) = map (λ (f : Named). f.url) seen in
    let again : list_any (same_origin a.url) urls ≡ b =
    list_any-map (same_origin a.url) (λ (f : Named). f.url) seen ∙ before in
    sym (ap origin_count (map_push (λ (f : Named). f.url) seen a) ∙ new_origins-append [] urls (a.url ∷ [])
    ∙ ap (λ m. origin_count urls + m) (ap (λ (c : Bool). (if c then 0 else 1) + 0) again)
    ∙ ap (λ m. m + ((if b then 0 else 1) + 0)) (sym counted) ∙ url_count b n)

grown : (origins newer : List Origin) (names others : List Slot) (seen : List Named) (origin : Origin) (a : Named)
    (h : Stands origins names seen) (b : Bool) → list_any (share_origin a) h.firsts ≡ b
    → origin_of_url a.url ≡ Some (key_of origin) → share_origin a a ≡ true
    → Agree share_origin share_name (seen ++ a ∷ []) → newer ≡ (if b then origins else origins ++ origin ∷ [])
    → others ≡ (if b then names else names ++ a.name ∷ []) → Stands newer others (seen ++ a ∷ [])
grown origins newer names others seen origin a h true any own self agree first second =
    record {
      firsts = h.firsts;
      origins_of = ap (map (λ o. Some (key_of o))) first ∙ h.origins_of;
      names_of = second ∙ h.names_of;
      are = firsts_more share_origin share_name h.firsts seen a true any self h.are agree;
      counted =
          counted_more seen a true (length h.firsts) (seen_before share_origin share_name h.firsts seen a by_origin h.are ∙ any)
          h.counted;
      few = omega (arith, h.few, length_push seen a);
    }
grown origins newer names others seen origin a h false any own self agree first second =
    record {
      firsts = h.firsts ++ a ∷ [];
      origins_of =
          ap (map (λ o. Some (key_of o))) first ∙ map_push (λ o. Some (key_of o)) origins origin
          ∙ ap (λ xs. xs ++ Some (key_of origin) ∷ []) h.origins_of
          ∙ ap (λ x. map (λ (f : Named). origin_of_url f.url) h.firsts ++ x ∷ []) (sym own)
          ∙ sym (map_push (λ (f : Named). origin_of_url f.url) h.firsts a);
      names_of =
          second ∙ ap (λ xs. xs ++ a.name ∷ []) h.names_of ∙ sym (map_push (λ (f : Named). f.name) h.firsts a);
      are = firsts_more share_origin share_name h.firsts seen a false any self h.are agree;
      counted =
          length_push h.firsts a
          ∙ counted_more seen a false (length h.firsts)
          (seen_before share_origin share_name h.firsts seen a by_origin h.are ∙ any) h.counted;
      few = omega (arith, h.few, length_push seen a, length_push h.firsts a);
    }

own_origin : (a : Named) (origin : Origin) → origin_of_url a.url ≡ Some (key_of origin) → share_origin a a ≡ true
own_origin a origin own =
    ap (λ o. are_same o o) own
    ∙ and_from (bytes_eq origin.prefix origin.prefix) (bytes_eq origin.host origin.host)
    ((bytes_eq-Decides origin.prefix origin.prefix).1 refl) ((bytes_eq-Decides origin.host origin.host).1 refl)

-- a URL whose origin and name have the same number
pub stands_more : (origins newer : List Origin) (names others : List Slot) (seen : List Named) (origin : Origin)
    (a : Named) → Stands origins names seen → origin_of_url a.url ≡ Some (key_of origin)
    → position_or_len (is_equal origin) origins ≡ position_or_len (is_slot a.name) names
    → newer ≡ insert_key is_equal origins origin → others ≡ insert_key is_slot names a.name
    → Stands newer others (seen ++ a ∷ [])
stands_more origins newer names others seen origin a h own same first second =
    let places : position_or_len (share_origin a) h.firsts ≡ position_or_len (share_name a) h.firsts =
    sym (place_of_origin origins names seen origin a h own) ∙ same ∙ place_of_name origins names seen a h in
    let self = own_origin a origin own in
    let by_key : list_any (is_equal origin) origins ≡ list_any (share_origin a) h.firsts =
    same_anys (is_equal origin) (share_origin a) origins h.firsts
    (origin_tests origins h.firsts origin a h.origins_of own) in
    let by_slot : list_any (is_slot a.name) names ≡ list_any (share_origin a) h.firsts =
    same_anys (is_slot a.name) (share_name a) names h.firsts (name_tests names h.firsts a h.names_of)
    ∙ sym (same_any (share_origin a) (share_name a) h.firsts places) in
    grown origins newer names others seen origin a h (list_any (share_origin a) h.firsts) refl own self
    (agree_more share_origin share_name h.firsts seen a by_origin by_name h.are places
    (self ∙ sym (eq-eqb a.name.0 a.name.0 refl)))
    (first ∙ ap (λ (b : Bool). if b then origins else origins ++ origin ∷ []) by_key)
    (second ∙ ap (λ (b : Bool). if b then names else names ++ a.name ∷ []) by_slot)

-- ---- all URLs

pub all_named : (origins : List Origin) (names : List Slot) (seen : List Named) → Stands origins names seen → AreNamed seen
all_named origins names seen h = named_from seen h.are.agree

pub length_is : (origins : List Origin) (names : List Slot) (seen : List Named) (h : Stands origins names seen)
    → length origins ≡ length h.firsts
length_is origins names seen h =
    sym (length-map origins (λ o. Some (key_of o))) ∙ ap length h.origins_of
    ∙ length-map h.firsts (λ (f : Named). origin_of_url f.url)

pub counts : (origins : List Origin) (names : List Slot) (seen : List Named) → Stands origins names seen
    → length origins ≡ origin_count (map (λ (f : Named). f.url) seen)
counts origins names seen h = length_is origins names seen h ∙ h.counted

pub no_more : (origins : List Origin) (names : List Slot) (seen : List Named) → Stands origins names seen
    → length origins ≤ length seen
no_more origins names seen h = omega (arith, length_is origins names seen h, h.few)
