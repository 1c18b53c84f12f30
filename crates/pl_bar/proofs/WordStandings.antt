-- How well words stand, of what is known of each of them.
use Rattle.std.proofs.Common.{◌≡◌, ◌∙◌, ◌&&◌, ◌||◌, ◌+◌, ◌<◌, ℕ, Bool, true, false, List, [], ◌∷◌, ap, ap₂}
use Rattle.std.proofs.Common.{drop, get_or, if◌then◌else◌, length, refl, sym, take}
use Rattle.std.specs.Ordering.{ord_min}
use Rattle.std.proofs.lemmas.Bool.{true≢false}
use Rattle.std.proofs.lemmas.List.{take-append-drop}
use Rattle.std.proofs.lemmas.List.Folds.{list_all-append, list_all_more}
use Rattle.pl_follow.specs.declared.texts.Folded.{Folded}
use Rattle.pl_words.specs.contracts.stands.StandingOrd.TheImpl.{ghosts}
use Rattle.pl_words.specs.declared.bar_text.Marks.{Marks}
use Rattle.pl_words.specs.declared.stands.Standing.{Standing}
use Rattle.pl_words.specs.declared.stands.Standing.TheVariants.{Boundary, Inside, Nowhere}
use Rattle.pl_words.specs.Pieces.{found}
use Rattle.pl_words.proofs.FoundLaws.{found_somewhere}
use Rattle.pl_bar.specs.Standings.{all_in, in_titles, standing_by, word_in}

-- ---- what stands on a boundary stands in the text

-- where the first holds, the second does
abbrev pub Implies : Bool → Bool → Type 0
Implies a b = a ≡ true → b ≡ true

or_implies : (t a u b : Bool) → Implies t a → Implies u b → Implies (t || u) (a || b)
or_implies true a u b one two is = ap (λ c. c || b) (one refl)
or_implies false true u b one two is = refl
or_implies false false u b one two is = two is

and_implies : (t a u b : Bool) → Implies t a → Implies u b → Implies (t && u) (a && b)
and_implies true a u b one two is = ap₂ (λ c d. c && d) (one refl) (two is)
and_implies false a u b one two is = absurd (true≢false (sym is))

module _ (texts : Folded) where
  pub titles_somewhere : (word : List ℕ) → Implies (in_titles texts true word) (in_titles texts false word)
  titles_somewhere word =
      or_implies (found true word texts.title) (found false word texts.title) (found true word texts.tags)
      (found false word texts.tags) (found_somewhere word texts.title) (found_somewhere word texts.tags)

  address_somewhere : (word : List ℕ) → Implies (found true word texts.address) (found false word texts.address)
  address_somewhere word = found_somewhere word texts.address

  pub word_somewhere : (marks : Marks) (word : List ℕ)
      → Implies (word_in texts marks true word) (word_in texts marks false word)
  word_somewhere marks word = choose marks.title marks.address
    where
      choose : (t a : Bool)
          → Implies (if t && a then in_titles texts true word && found true word texts.address else
          if t then in_titles texts true word else if a then found true word texts.address else
          in_titles texts true word || found true word texts.address)
          (if t && a then in_titles texts false word && found false word texts.address else
          if t then in_titles texts false word else if a then found false word texts.address else
          in_titles texts false word || found false word texts.address)
      choose true true =
          and_implies (in_titles texts true word) (in_titles texts false word) (found true word texts.address)
          (found false word texts.address) (titles_somewhere word) (address_somewhere word)
      choose true false = titles_somewhere word
      choose false true = address_somewhere word
      choose false false =
          or_implies (in_titles texts true word) (in_titles texts false word) (found true word texts.address)
          (found false word texts.address) (titles_somewhere word) (address_somewhere word)

  pub all_somewhere : (marks : Marks) (words : List (List ℕ))
      → Implies (all_in texts marks words true) (all_in texts marks words false)
  all_somewhere marks [] = λ is. is
  all_somewhere marks (w ∷ ws) =
      and_implies (word_in texts marks true w) (word_in texts marks false w) (all_in texts marks ws true)
      (all_in texts marks ws false) (word_somewhere marks w) (all_somewhere marks ws)

-- ---- the worse of two

abbrev pub by : Bool → Bool → Standing
by on_boundary anywhere = if on_boundary then Boundary else if anywhere then Inside else Nowhere

worse_by : (t a u b : Bool) → Implies t a → Implies u b
    → ord_min ghosts.cmp (by t a) (by u b) ≡ by (t && u) (a && b)
worse_by true true true true one two = refl
worse_by true true false true one two = refl
worse_by true true false false one two = refl
worse_by false true true true one two = refl
worse_by false true false true one two = refl
worse_by false true false false one two = refl
worse_by false false true true one two = refl
worse_by false false false true one two = refl
worse_by false false false false one two = refl
worse_by true false u b one two = absurd (true≢false (sym (one refl)))
worse_by t a true false one two = absurd (true≢false (sym (two refl)))

pub worse_of : (one other : Standing) (first second : Bool → Bool) → one ≡ standing_by first
    → other ≡ standing_by second → Implies (first true) (first false) → Implies (second true) (second false)
    → ord_min ghosts.cmp one other ≡ standing_by (λ boundary. first boundary && second boundary)
worse_of one other first second is is_other somewhere other_somewhere =
    ap₂ (ord_min ghosts.cmp) is is_other
    ∙ worse_by (first true) (first false) (second true) (second false) somewhere other_somewhere

-- ---- word by word

module _ (texts : Folded) (marks : Marks) (words : List (List ℕ)) (place : ℕ) (within : place < length words) where
  -- how well the words so far stand, and one more
  pub one_more : (so_far one : Standing) (word : List ℕ) → word ≡ get_or words place word
      → so_far ≡ standing_by (all_in texts marks (take place words))
      → one ≡ standing_by (λ boundary. word_in texts marks boundary word)
      → ord_min ghosts.cmp so_far one ≡ standing_by (all_in texts marks (take (place + 1) words))
  one_more so_far one word at is is_one =
      worse_of so_far one (all_in texts marks (take place words)) (λ boundary. word_in texts marks boundary word) is
      is_one (all_somewhere texts marks (take place words)) (word_somewhere texts marks word)
      ∙ ap₂ by (more true) (more false)
    where
      more : (boundary : Bool) → (all_in texts marks (take place words) boundary && word_in texts marks boundary word)
          ≡ all_in texts marks (take (place + 1) words) boundary
      more boundary =
          ap (λ w. all_in texts marks (take place words) boundary && word_in texts marks boundary w) at
          ∙ sym (list_all_more (word_in texts marks boundary) words place word within)

-- where one of the words so far does not stand, it does not matter how the others do
pub none_stands : (texts : Folded) (marks : Marks) (words : List (List ℕ)) (count : ℕ) (worst : Standing)
    → worst ≡ standing_by (all_in texts marks (take count words)) → worst ≡ Nowhere
    → worst ≡ standing_by (all_in texts marks words)
none_stands texts marks words count worst is none =
    none
    ∙ later (all_in texts marks (take count words) true) (all_in texts marks (drop count words) true)
    (all_in texts marks (take count words) false) (all_in texts marks (drop count words) false) (sym is ∙ none)
    ∙ ap₂ by (sym (parted true)) (sym (parted false))
  where
    parted : (boundary : Bool) → all_in texts marks words boundary
        ≡ (all_in texts marks (take count words) boundary && all_in texts marks (drop count words) boundary)
    parted boundary =
        ap (λ ws. all_in texts marks ws boundary) (sym (take-append-drop count words))
        ∙ list_all-append (word_in texts marks boundary) (take count words) (drop count words)

    later : (t u a b : Bool) → by t a ≡ Nowhere → Nowhere ≡ by (t && u) (a && b)
    later true u a b is = absurd (cc)
    later false u true b is = absurd (cc)
    later false u false b is = refl
