-- The sketch of a page's texts covers that of each word in one of them, and so that of all.
use Rattle.std.proofs.Common.{◌≡◌, ◌∙◌, ◌||◌, ◌++◌, ◌+◌, ◌<◌, ℕ, Bool, true, false, List, [], ◌∷◌, ap, drop}
use Rattle.std.proofs.Common.{get_or, length, nat_eq, refl, subst, sym, take}
use Rattle.std.specs.List.{list_all, starts_with}
use Rattle.std.proofs.lemmas.Bool.{and_parts}
use Rattle.std.proofs.lemmas.List.{take-append-drop, take_more}
use Rattle.std.proofs.lemmas.Slice.Eq.{bytes_eq-Decides}
use Rattle.pl_sketch.specs.declared.sketch.Sketch.{Sketch}
use Rattle.pl_sketch.specs.Pairs.{Covers, nothing, sketch_of, union}
use Rattle.pl_sketch.proofs.CoverLaws.{covers_both, covers_first, covers_nothing, covers_on, covers_second, covers_word}
use Rattle.pl_sketch.proofs.CoverLaws.{covers_rest, union_assoc, union_comm}
use Rattle.pl_follow.specs.declared.texts.Folded.{Folded}
use Rattle.pl_follow.specs.Order.{sketch_of_texts}
use Rattle.pl_words.specs.Pieces.{occurs}
use Rattle.pl_sought.specs.Sought.{sketch_of_words}

-- ---- a word in a text

-- a text that begins with the word
begins : (word text : List ℕ) → starts_with nat_eq text word ≡ true → Covers (sketch_of text) (sketch_of word)
begins word text is =
    let front : word ≡ take (length word) text = (bytes_eq-Decides word (take (length word) text)).0 is in
    subst (λ whole. Covers (sketch_of whole) (sketch_of word))
    (ap (λ start. start ++ drop (length word) text) front ∙ take-append-drop (length word) text)
    (covers_word [] word (drop (length word) text))

occurring : (word text : List ℕ) → occurs word text ≡ true → Covers (sketch_of text) (sketch_of word)
occurring word [] is = begins word [] is
occurring word (b ∷ text) is =
    choose (starts_with nat_eq (b ∷ text) word) refl is (occurring word text)
  where
    choose : (here : Bool) → starts_with nat_eq (b ∷ text) word ≡ here → (here || occurs word text) ≡ true
        → (occurs word text ≡ true → Covers (sketch_of text) (sketch_of word))
        → Covers (sketch_of (b ∷ text)) (sketch_of word)
    choose true front some rest = begins word (b ∷ text) front
    choose false front some rest =
        covers_on (sketch_of (b ∷ text)) (sketch_of text) (sketch_of word) (covers_rest b text) (rest some)

-- ---- a word in the texts of a page

pub either : {X : Type 0} (a b : Bool) → (a || b) ≡ true → (a ≡ true → X) → (b ≡ true → X) → X
either true b is first second = first refl
either false b is first second = second is

module _ (texts : Folded) where
  abbrev whole : Sketch
  whole = sketch_of_texts texts

  abbrev behind : Sketch
  behind = union (sketch_of texts.address) (sketch_of texts.tags)

  in_text : (text word : List ℕ) → Covers whole (sketch_of text) → occurs word text ≡ true
      → Covers whole (sketch_of word)
  in_text text word all is = covers_on whole (sketch_of text) (sketch_of word) all (occurring word text is)

  pub in_title : (word : List ℕ) → occurs word texts.title ≡ true → Covers whole (sketch_of word)
  in_title word = in_text texts.title word (covers_first (sketch_of texts.title) behind)

  pub in_address : (word : List ℕ) → occurs word texts.address ≡ true → Covers whole (sketch_of word)
  in_address word =
      in_text texts.address word
      (covers_on whole behind (sketch_of texts.address) (covers_second (sketch_of texts.title) behind)
      (covers_first (sketch_of texts.address) (sketch_of texts.tags)))

  pub in_tags : (word : List ℕ) → occurs word texts.tags ≡ true → Covers whole (sketch_of word)
  in_tags word =
      in_text texts.tags word
      (covers_on whole behind (sketch_of texts.tags) (covers_second (sketch_of texts.title) behind)
      (covers_second (sketch_of texts.address) (sketch_of texts.tags)))

  -- what holds of words of which the sketch covers each
  pub all_covered : (test : List ℕ → Bool) → ((word : List ℕ) → test word ≡ true → Covers whole (sketch_of word))
      → (words : List (List ℕ)) → list_all test words ≡ true → Covers whole (sketch_of_words words)
  all_covered test covered [] all = covers_nothing whole
  all_covered test covered (w ∷ ws) all =
      let both = and_parts (test w) (list_all test ws) all in
      covers_both whole (sketch_of w) (sketch_of_words ws) (covered w both.0) (all_covered test covered ws both.1)

-- ---- the sketch of words, one by one

with_word : (words : List (List ℕ)) (word : List ℕ)
    → sketch_of_words (words ++ word ∷ []) ≡ union (sketch_of_words words) (sketch_of word)
with_word [] word = union_comm (sketch_of word) nothing
with_word (w ∷ ws) word =
    ap (union (sketch_of w)) (with_word ws word)
    ∙ sym (union_assoc (sketch_of w) (sketch_of_words ws) (sketch_of word))

pub word_more : (words : List (List ℕ)) (place : ℕ) (word : List ℕ) (old one new : Sketch) → place < length words
    → word ≡ get_or words place word → old ≡ sketch_of_words (take place words) → one ≡ sketch_of word
    → new ≡ union old one → new ≡ sketch_of_words (take (place + 1) words)
word_more words place word old one new within at is_old is_one is =
    is
    ∙ (λ i. union (is_old i) (is_one i))
    ∙ sym (with_word (take place words) word)
    ∙ ap (λ w. sketch_of_words (take place words ++ w ∷ [])) at
    ∙ ap sketch_of_words (sym (take_more words place word within))
