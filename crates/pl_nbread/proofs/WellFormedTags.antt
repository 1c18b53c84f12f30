-- The bookmarks of a file have few tags in all.
use Rattle.std.proofs.Common.{◌≡◌, ◌<◌, ◌≤◌, ◌+◌, ◌*◌, ◌^◌, ℕ, zero, suc, Bool, true, false}
use Rattle.std.proofs.Common.{List, [], ◌∷◌, ◌++◌, arith, length, length-append, map}
use Rattle.std.proofs.Common.{refl, sum}
use Rattle.std.proofs.Common.{Option, Some, None, if◌then◌else◌}
use Rattle.std.specs.Prelude.{codes}
use Rattle.std.specs.List.{cons_option, sum_by}
use Rattle.std.specs.Option.{unwrap_or}
use Rattle.std.proofs.lemmas.List.Sums.{sum-map, sum_by-cons}
use Rattle.std.proofs.lemmas.Str.{length-encode, len_utf8_bounds}
use Rattle.pl_nbread.specs.declared.open_list.OpenList.{OpenList}
use Rattle.pl_nbread.specs.declared.open_list.Root.{Root}
use Rattle.pl_nbread.specs.declared.tree.Node.{Node}
use Rattle.pl_nbread.specs.BookmarkFile.{file_limit}
use Rattle.pl_nbread.specs.BookmarkTree.{Content, Nothing, Then, Inner, Made, Child, Skipped}
use Rattle.pl_nbread.specs.BookmarkTree.{bookmark_if, enclosed, folder_unless, inside, is_same_root}
use Rattle.pl_nbread.specs.BookmarkTree.{levels, made, made_of, made_of_all, menu, nodes_in, put_front}
use Rattle.pl_nbread.specs.BookmarkTree.{raw, root_at, tags, title, url, value}
use Rattle.pl_nbread.specs.Parts.{Part, Heading, Link, ListStart, ListEnd, Rule, TitleEnd, Words}
use Rattle.pl_nbread.specs.Parts.{Other, part_of}
use Rattle.pl_nbread.specs.References.{Reference, decoded_from, meant, reference_at}
use Rattle.pl_nbread.specs.Tokens.{Attribute, tokens}
use Rattle.pl_nbread.proofs.WellFormedSizes.{total, total_within, weight}
use Rattle.pl_nbread.proofs.TagsInText.{tags_in-le}

-- ---- the tags of a text

-- a byte stands for at most four
meant_few : (b : ℕ) (reference : Option Reference) → length (meant b reference).0 ≤ 4
meant_few b None = omega arith
meant_few b (Some reference) =
    omega (arith, length-encode reference.char, (len_utf8_bounds reference.char).1)

decoded_few : (n : ℕ) (text : List ℕ) → length (decoded_from n text) ≤ 4 * length text
decoded_few n [] = omega arith
decoded_few (suc n) (b ∷ text) = omega (arith, decoded_few n text)
decoded_few zero (b ∷ text) =
    omega (
      arith,
      meant_few b (reference_at (b ∷ text)),
      decoded_few (meant b (reference_at (b ∷ text))).1 text,
      length-append (meant b (reference_at (b ∷ text))).0
          (decoded_from (meant b (reference_at (b ∷ text))).1 text),
    )

tags_few : (a : List Attribute) → length (tags a) ≤ 4 * weight (Link a)
tags_few a =
    omega (
      arith,
      tags_in-le (value (codes "tags") a),
      decoded_few 0 (unwrap_or (raw (codes "tags") a) []),
    )

-- ---- what is made

abbrev heft : Content → ℕ
heft Nothing = 0
heft (Then part more) = weight part + heft more
heft (Inner inner behind) = heft inner + heft behind

abbrev hefts : List Content → ℕ
hefts [] = 0
hefts (content ∷ outer) = heft content + hefts outer

front_heft : (part : Part) (all : List Content) → hefts (put_front part all) ≤ weight part + hefts all
front_heft part [] = omega arith
front_heft part (content ∷ outer) = omega arith

enclosed_heft : (all : List Content) → hefts (enclosed all) ≤ hefts all
enclosed_heft [] = omega arith
enclosed_heft (inner ∷ []) = omega arith
enclosed_heft (inner ∷ behind ∷ outer) = omega arith

levels_heft : (parts : List Part) → hefts (levels parts) ≤ total parts
levels_heft [] = omega arith
levels_heft (ListStart ∷ parts) = omega (arith, enclosed_heft (levels parts), levels_heft parts)
levels_heft (ListEnd ∷ parts) = omega (arith, levels_heft parts)
levels_heft (Heading a ∷ parts) = omega (arith, front_heft (Heading a) (levels parts), levels_heft parts)
levels_heft (Link a ∷ parts) = omega (arith, front_heft (Link a) (levels parts), levels_heft parts)
levels_heft (Rule ∷ parts) = omega (arith, front_heft Rule (levels parts), levels_heft parts)
levels_heft (TitleEnd ∷ parts) = omega (arith, front_heft TitleEnd (levels parts), levels_heft parts)
levels_heft (Words text ∷ parts) = omega (arith, front_heft (Words text) (levels parts), levels_heft parts)
levels_heft (Other ∷ parts) = omega (arith, front_heft Other (levels parts), levels_heft parts)

-- the number of tags of what is made
abbrev counted : Made → ℕ
counted Skipped = 0
counted (Child root node) = length node.tags

abbrev all_counted : List Made → ℕ
all_counted [] = 0
all_counted (this ∷ more) = counted this + all_counted more

counted_both : (xs ys : List Made) → all_counted (xs ++ ys) ≡ all_counted xs + all_counted ys
counted_both [] ys = omega arith
counted_both (x ∷ xs) ys = omega (arith, counted_both xs ys)

heading_none : (root : Option Root) (here : OpenList) (a : List Attribute) (title : List ℕ)
    → all_counted (folder_unless root here a title) ≡ 0
heading_none None here a title = refl
heading_none (Some root) here a title = refl

link_few : (url : Option (List ℕ)) (here : OpenList) (a : List Attribute) (title : List ℕ)
    → counted (bookmark_if url here a title) ≤ 4 * weight (Link a)
link_few None here a title = omega arith
link_few (Some url) here a title = tags_few a

made_few : (here : OpenList) (pending : Option OpenList) (content : Content)
    → all_counted (made here pending content) ≤ 4 * heft content
made_few here pending Nothing = omega arith
made_few here pending (Inner inner behind) =
    omega (
      arith,
      counted_both (made (unwrap_or pending here) None inner) (made here None behind),
      made_few (unwrap_or pending here) None inner,
      made_few here None behind,
    )
made_few here pending (Then (Heading a) more) =
    omega (
      arith,
      counted_both (folder_unless (root_at here a) here a (title more)) (made here (Some (inside here a)) more),
      heading_none (root_at here a) here a (title more),
      made_few here (Some (inside here a)) more,
    )
made_few here pending (Then (Link a) more) =
    omega (arith, link_few (url a) here a (title more), made_few here None more)
made_few here pending (Then Rule more) = omega (arith, made_few here None more)
made_few here pending (Then TitleEnd more) = omega (arith, made_few here pending more)
made_few here pending (Then (Words text) more) = omega (arith, made_few here pending more)
made_few here pending (Then Other more) = omega (arith, made_few here pending more)
made_few here pending (Then ListStart more) = omega (arith, made_few here pending more)
made_few here pending (Then ListEnd more) = omega (arith, made_few here pending more)

all_few : (all : List Content) → all_counted (made_of_all all) ≤ 4 * hefts all
all_few [] = omega arith
all_few (content ∷ outer) =
    omega (
      arith,
      counted_both (made menu None content) (made_of_all outer),
      made_few menu None content,
      all_few outer,
    )

-- ---- a root's list

abbrev tags_held : Node → ℕ
tags_held node = length node.tags

in_list : (root : Root) (all : List Made) → sum_by tags_held (nodes_in root all) ≤ all_counted all
in_list root [] = omega arith
in_list root (Skipped ∷ all) = omega (arith, in_list root all)
in_list root (Child other node ∷ all) = choose (is_same_root root other) (in_list root all)
  where
    choose : (v : Bool) → sum_by tags_held (nodes_in root all) ≤ all_counted all
        → sum_by tags_held (cons_option (if v then Some node else None) (nodes_in root all))
        ≤ length node.tags + all_counted all
    choose true rest = omega (arith, sum_by-cons tags_held node (nodes_in root all))
    choose false rest = omega arith

-- the nodes of each list have fewer tags than numbers have values
pub few_tags : (root : Root) (text : List ℕ) → length text < file_limit
    → sum (map (λ (n : Node). length n.tags) (nodes_in root (made_of (map part_of (tokens text))))) < 2 ^ 32
few_tags root text short =
    let parts : List Part = map part_of (tokens text) in
    omega (
      arith,
      sum-map tags_held (nodes_in root (made_of parts)),
      in_list root (made_of parts),
      all_few (levels parts),
      levels_heft parts,
      total_within text,
    )
