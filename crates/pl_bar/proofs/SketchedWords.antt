-- Where the sketch of a page's texts lacks a place of the words, they do not all stand in them.
use Rattle.std.proofs.Common.{◌≡◌, ◌∙◌, ◌&&◌, ◌||◌, ℕ, Bool, true, false, List}
use Rattle.std.proofs.Common.{if◌then◌else◌, refl, subst, sym}
use Rattle.std.specs.Bool.{IsTrue}
use Rattle.std.proofs.lemmas.Bool.{and_parts, true≢false}
use Rattle.pl_sketch.specs.declared.sketch.Sketch.{Sketch}
use Rattle.pl_sketch.specs.Pairs.{Covers, sketch_of}
use Rattle.pl_follow.specs.declared.texts.Folded.{Folded}
use Rattle.pl_follow.specs.Order.{sketch_of_texts}
use Rattle.pl_words.specs.declared.bar_text.Marks.{Marks}
use Rattle.pl_words.specs.declared.stands.Standing.TheVariants.{Nowhere}
use Rattle.pl_words.specs.Pieces.{found}
use Rattle.pl_sought.specs.Sought.{sketch_of_words}
use Rattle.pl_sought.proofs.SoughtWords.{all_covered, either, in_address, in_tags, in_title}
use Rattle.pl_bar.specs.Standings.{all_in, in_titles, standing_by, word_in}
use Rattle.pl_bar.proofs.WordStandings.{all_somewhere, by}

module _ (texts : Folded) where
  abbrev whole : Sketch
  whole = sketch_of_texts texts

  in_either : (word : List ℕ) → in_titles texts false word ≡ true → Covers whole (sketch_of word)
  in_either word is =
      either (found false word texts.title) (found false word texts.tags) is (in_title texts word)
      (in_tags texts word)

  word_covered : (marks : Marks) (word : List ℕ) → word_in texts marks false word ≡ true
      → Covers whole (sketch_of word)
  word_covered marks word = choose marks.title marks.address
    where
      choose : (t a : Bool)
          → (if t && a then in_titles texts false word && found false word texts.address else
          if t then in_titles texts false word else if a then found false word texts.address else
          in_titles texts false word || found false word texts.address) ≡ true
          → Covers whole (sketch_of word)
      choose true true is =
          in_either word (and_parts (in_titles texts false word) (found false word texts.address) is).0
      choose true false is = in_either word is
      choose false true is = in_address texts word is
      choose false false is =
          either (in_titles texts false word) (found false word texts.address) is (in_either word)
          (in_address texts word)

  -- words that a sketch excludes
  nowhere : (marks : Marks) (words : List (List ℕ)) → (Covers whole (sketch_of_words words) → ⊥)
      → Nowhere ≡ standing_by (all_in texts marks words)
  nowhere marks words lacks =
      choose (all_in texts marks words true) (all_in texts marks words false) (all_somewhere texts marks words)
      (λ stands. lacks (all_covered texts (word_in texts marks false) (word_covered marks) words stands))
    where
      choose : (t a : Bool) → (t ≡ true → a ≡ true) → (a ≡ true → ⊥) → Nowhere ≡ by t a
      choose true a somewhere none = absurd (none (somewhere refl))
      choose false true somewhere none = absurd (none refl)
      choose false false somewhere none = refl

-- ---- the test

pub passed_by : (texts : Folded) (marks : Marks) (words : List (List ℕ)) (sketch asked : Sketch) (covers : Bool)
    → sketch ≡ sketch_of_texts texts → asked ≡ sketch_of_words words → (Covers sketch asked → IsTrue covers)
    → covers ≡ false → Nowhere ≡ standing_by (all_in texts marks words)
passed_by texts marks words sketch asked covers is_sketch is_asked tells lacks =
    nowhere texts marks words
    (λ has.
    true≢false (sym (tells (subst (λ s. Covers s asked) (sym is_sketch)
    (subst (Covers (sketch_of_texts texts)) (sym is_asked) has))) ∙ lacks))
