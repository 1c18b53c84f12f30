-- Writes of several ranges, one after another.
use Rattle.std.specs.Option.{option_map}
use Rattle.std.proofs.Common.{◌≡◌, ℕ, zero, suc, ◌+◌, ◌*◌, ◌<◌, ◌≤◌, List, [], ◌∷◌, ◌++◌, length, take, drop}
use Rattle.std.proofs.Common.{slice_index, slice_index_or, Option, Some, None, refl, sym, ◌∙◌, ap, subst, arith}
use Rattle.std.proofs.lemmas.List.{take-append-drop, length-take}
use Rattle.std.proofs.Math.Seq.{take-add}
use Rattle.pl_base.specs.Touched.{PageImage, page_images, page_numbers, page_size}
use Rattle.pl_desk.specs.Desk.{Follows, Torn, overwritten}
use Rattle.pl_desk.specs.Overwritten.{torn_same}
use Rattle.pl_gate.specs.Device.{Range, TornIn, entry_bytes, entry_ranges, image_ranges, with_entries, with_images}
use Rattle.pl_gate.specs.Gate.{entry_size}

-- no write of them has to change anything
pub torn_in_same : (ranges : List Range) (file : List ℕ) → TornIn ranges file file
torn_in_same [] file = refl
torn_in_same (range ∷ ranges) file = (file, torn_same range.0 range.1 file, torn_in_same ranges file)

-- one write more
pub torn_in_more : (ranges : List Range) (range : Range) (old mid new : List ℕ) → TornIn ranges old mid
    → Torn range.0 range.1 mid new → TornIn (ranges ++ range ∷ []) old new
torn_in_more [] range old mid new torn more = (new, subst (λ (l : List ℕ). Torn range.0 range.1 l new) torn more, refl)
torn_in_more (first ∷ ranges) range old mid new (next, torn, rest) more =
    (next, torn, torn_in_more ranges range next mid new rest more)

-- some of the first writes
pub torn_in_front : (front back : List Range) (old new : List ℕ) → TornIn front old new → TornIn (front ++ back) old new
torn_in_front [] back old new torn = subst (λ (l : List ℕ). TornIn back old l) (sym torn) (torn_in_same back old)
torn_in_front (first ∷ front) back old new (next, torn, rest) = (next, torn, torn_in_front front back next new rest)

pub entry_ranges-append : (at : ℕ) (front back : List PageImage)
    → entry_ranges at (front ++ back) ≡ entry_ranges at front ++ entry_ranges (at + entry_size * length front) back
entry_ranges-append at [] back = ap (λ (n : ℕ). entry_ranges n back) (omega arith)
entry_ranges-append at (p ∷ front) back =
    ap (λ l. (at, entry_size) ∷ l) (entry_ranges-append (at + entry_size) front back
    ∙ ap (λ (n : ℕ). entry_ranges (at + entry_size) front ++ entry_ranges n back) (omega arith))

pub with_entries-append : (at : ℕ) (front back : List PageImage) (file : List ℕ)
    → with_entries at (front ++ back) file
    ≡ with_entries (at + entry_size * length front) back (with_entries at front file)
with_entries-append at [] back file = ap (λ (n : ℕ). with_entries n back file) (omega arith)
with_entries-append at (p ∷ front) back file =
    with_entries-append (at + entry_size) front back (overwritten 0 at (entry_bytes p) file)
    ∙ ap (λ (n : ℕ). with_entries n back (with_entries (at + entry_size) front (overwritten 0 at (entry_bytes p) file)))
    (omega arith)

pub image_ranges-append : (front back : List PageImage)
    → image_ranges (front ++ back) ≡ image_ranges front ++ image_ranges back
image_ranges-append [] back = refl
image_ranges-append (p ∷ front) back = ap (λ l. (page_size * p.page, page_size) ∷ l) (image_ranges-append front back)

pub with_images-append : (front back : List PageImage) (file : List ℕ)
    → with_images (front ++ back) file ≡ with_images back (with_images front file)
with_images-append [] back file = refl
with_images-append (p ∷ front) back file =
    with_images-append front back (overwritten 0 (page_size * p.page) p.image file)

length-take_le : (k : ℕ) (pages : List PageImage) → k ≤ length pages → length (take k pages) ≡ k
length-take_le k pages le = omega (arith, length-take k pages, le)

-- ---- one page more

-- the page at a place
abbrev pub nth : List PageImage → ℕ → PageImage
nth pages k = record { page = slice_index (page_numbers pages) k; image = slice_index_or (page_images pages) k [] }

pub take_more : (pages : List PageImage) (k : ℕ) → k < length pages
    → take (k + 1) pages ≡ take k pages ++ nth pages k ∷ []
take_more [] k lt = absurd (omega (arith, lt))
take_more (p ∷ pages) zero lt = refl
take_more (p ∷ pages) (suc k) lt =
    let more : suc k + 1 ≡ suc (k + 1) = omega arith in
    ap (λ (n : ℕ). take n (p ∷ pages)) more ∙ ap (λ (l : List PageImage). p ∷ l) (take_more pages k (omega (arith, lt)))

pub follows_more : (front : List Range) (range : Range) (first mid last : List ℕ → Type 0)
    → Follows (TornIn front) first mid → Follows (Torn range.0 range.1) mid last
    → Follows (TornIn (front ++ range ∷ [])) first last
follows_more front range first mid last so_far more file left =
    let (between, may, torn) = more file left in
    let (before, might, rest) = so_far between may in
    (before, might, torn_in_more front range before between file rest torn)

pub follows_front : (front back : List Range) (first last : List ℕ → Type 0) → Follows (TornIn front) first last
    → Follows (TornIn (front ++ back)) first last
follows_front front back first last so_far file left =
    let (before, might, torn) = so_far file left in
    (before, might, torn_in_front front back before file torn)

pub map_after : (f g : List ℕ → List ℕ) (held : Option (List ℕ))
    → option_map f (option_map g held) ≡ option_map (λ file. f (g file)) held
map_after f g None = refl
map_after f g (Some file) = refl

pub map_none : (held : Option (List ℕ)) → held ≡ option_map (λ file. file) held
map_none None = refl
map_none (Some file) = refl

-- ---- an entry more

pub entries_more : (at : ℕ) (pages : List PageImage) (k : ℕ) → k < length pages
    → entry_ranges at (take (k + 1) pages) ≡ entry_ranges at (take k pages) ++ (at + entry_size * k, entry_size) ∷ []
entries_more at pages k lt =
    ap (entry_ranges at) (take_more pages k lt) ∙ entry_ranges-append at (take k pages) (nth pages k ∷ [])
    ∙ ap (λ (n : ℕ). entry_ranges at (take k pages) ++ (at + entry_size * n, entry_size) ∷ [])
    (length-take_le k pages (omega (arith, lt)))

pub entries_all : (at : ℕ) (pages : List PageImage) (k : ℕ)
    → entry_ranges at (take k pages) ++ entry_ranges (at + entry_size * length (take k pages)) (drop k pages)
    ≡ entry_ranges at pages
entries_all at pages k =
    sym (entry_ranges-append at (take k pages) (drop k pages)) ∙ ap (entry_ranges at) (take-append-drop k pages)

pub held_entries : (at : ℕ) (pages : List PageImage) (k : ℕ) (held mid new : Option (List ℕ)) (bytes : List ℕ)
    → k < length pages
    → mid ≡ option_map (with_entries at (take k pages)) held
    → new ≡ option_map (overwritten 0 (at + entry_size * k) bytes) mid → bytes ≡ entry_bytes (nth pages k)
    → new ≡ option_map (with_entries at (take (k + 1) pages)) held
held_entries at pages k held mid new bytes lt so_far more is =
    more ∙ ap (option_map (overwritten 0 (at + entry_size * k) bytes)) so_far
    ∙ map_after (overwritten 0 (at + entry_size * k) bytes) (with_entries at (take k pages)) held
    ∙ same held
  where
    one : (file : List ℕ) → overwritten 0 (at + entry_size * k) bytes (with_entries at (take k pages) file)
        ≡ with_entries at (take (k + 1) pages) file
    one file =
        ap (λ (b : List ℕ). overwritten 0 (at + entry_size * k) b (with_entries at (take k pages) file)) is
        ∙ ap (λ (n : ℕ). overwritten 0 (at + entry_size * n) (entry_bytes (nth pages k))
        (with_entries at (take k pages) file)) (sym (length-take_le k pages (omega (arith, lt))))
        ∙ sym (with_entries-append at (take k pages) (nth pages k ∷ []) file)
        ∙ ap (λ (l : List PageImage). with_entries at l file) (sym (take_more pages k lt))

    same : (held : Option (List ℕ))
        → option_map (λ file. overwritten 0 (at + entry_size * k) bytes (with_entries at (take k pages) file)) held
        ≡ option_map (with_entries at (take (k + 1) pages)) held
    same None = refl
    same (Some file) = ap Some (one file)

-- ---- an image more

pub images_more : (pages : List PageImage) (k : ℕ) → k < length pages
    → image_ranges (take (k + 1) pages) ≡ image_ranges (take k pages) ++ (page_size * (nth pages k).page, page_size)
    ∷ []
images_more pages k lt = ap image_ranges (take_more pages k lt) ∙ image_ranges-append (take k pages) (nth pages k ∷ [])

pub images_all : (pages : List PageImage) (k : ℕ)
    → image_ranges (take k pages) ++ image_ranges (drop k pages) ≡ image_ranges pages
images_all pages k =
    sym (image_ranges-append (take k pages) (drop k pages)) ∙ ap image_ranges (take-append-drop k pages)

pub held_images : (pages : List PageImage) (k : ℕ) (held mid new : Option (List ℕ)) → k < length pages
    → mid ≡ option_map (with_images (take k pages)) held
    → new ≡ option_map (overwritten 0 (page_size * (nth pages k).page) (nth pages k).image) mid
    → new ≡ option_map (with_images (take (k + 1) pages)) held
held_images pages k held mid new lt so_far more =
    more ∙ ap (option_map (overwritten 0 (page_size * (nth pages k).page) (nth pages k).image)) so_far
    ∙ map_after (overwritten 0 (page_size * (nth pages k).page) (nth pages k).image) (with_images (take k pages)) held
    ∙ same held
  where
    one : (file : List ℕ) → overwritten 0 (page_size * (nth pages k).page) (nth pages k).image
        (with_images (take k pages) file) ≡ with_images (take (k + 1) pages) file
    one file =
        sym (with_images-append (take k pages) (nth pages k ∷ []) file)
        ∙ ap (λ (l : List PageImage). with_images l file) (sym (take_more pages k lt))

    same : (held : Option (List ℕ))
        → option_map (λ file. overwritten 0 (page_size * (nth pages k).page) (nth pages k).image
        (with_images (take k pages) file)) held ≡ option_map (with_images (take (k + 1) pages)) held
    same None = refl
    same (Some file) = ap Some (one file)

-- ---- a page that stands next

pub take_next : (pages : List PageImage) (k : ℕ) (p : PageImage) (rest : List PageImage) → drop k pages ≡ p ∷ rest
    → take (k + 1) pages ≡ take k pages ++ p ∷ []
take_next pages k p rest next = take-add k 1 pages ∙ ap (λ (l : List PageImage). take k pages ++ take 1 l) next

pub next_range : (pages : List PageImage) (k : ℕ) (p : PageImage) (rest : List PageImage) → drop k pages ≡ p ∷ rest
    → image_ranges (take (k + 1) pages) ≡ image_ranges (take k pages) ++ (page_size * p.page, page_size) ∷ []
next_range pages k p rest next =
    ap image_ranges (take_next pages k p rest next) ∙ image_ranges-append (take k pages) (p ∷ [])

pub next_image : (pages : List PageImage) (k : ℕ) (p : PageImage) (rest : List PageImage) (file : List ℕ)
    → drop k pages ≡ p ∷ rest
    → overwritten 0 (page_size * p.page) p.image (with_images (take k pages) file)
    ≡ with_images (take (k + 1) pages) file
next_image pages k p rest file next =
    sym (with_images-append (take k pages) (p ∷ []) file)
    ∙ ap (λ (l : List PageImage). with_images l file) (sym (take_next pages k p rest next))
