-- Each node that a file makes is formed.
use Rattle.std.proofs.Common.{◌≡◌, ◌∙◌, ◌<◌, ◌*◌, ℕ, Bool, true, false, List, [], ◌∷◌, ◌++◌}
use Rattle.std.proofs.Common.{arith, refl, nat_lt}
use Rattle.std.proofs.Common.{Option, Some, None, if◌then◌else◌}
use Rattle.std.specs.Prelude.{codes}
use Rattle.std.specs.List.{cons_option, list_all}
use Rattle.std.specs.Option.{option_and_then, unwrap_or}
use Rattle.std.proofs.lemmas.Bool.{and_from, and_parts, le-leb, ltb-true}
use Rattle.std.proofs.lemmas.List.Folds.{list_all-append}
use Rattle.pl_base.specs.Date.{last_date}
use Rattle.pl_base.specs.NumberText.{number_of}
use Rattle.pl_nbread.specs.declared.open_list.OpenList.{OpenList}
use Rattle.pl_nbread.specs.declared.open_list.Root.{Root}
use Rattle.pl_nbread.specs.BookmarkTree.{Content, Nothing, Then, Inner, Made, Child, Skipped}
use Rattle.pl_nbread.specs.BookmarkTree.{added, added_seconds, bookmark, bookmark_if, folder}
use Rattle.pl_nbread.specs.BookmarkTree.{folder_unless, if_date, inside, is_same_root, made}
use Rattle.pl_nbread.specs.BookmarkTree.{made_of_all, menu, micros, modified, nodes_in, root_at}
use Rattle.pl_nbread.specs.BookmarkTree.{seconds_limit, title}
use Rattle.pl_nbread.specs.BookmarkTree.{url, value}
use Rattle.pl_nbread.specs.Parts.{Heading, Link, ListStart, ListEnd, Rule, TitleEnd, Words, Other}
use Rattle.pl_nbread.specs.Tokens.{Attribute}
use Rattle.pl_nbread.specs.WellFormed.{is_date, is_formed}
use Rattle.pl_nbread.proofs.TagsInText.{tags_named, tags_once}

-- ---- dates

in_time : (told : Option ℕ) (n : ℕ) → n < seconds_limit
    → unwrap_or (option_and_then if_date told) n < seconds_limit
in_time None n below = below
in_time (Some told) n below = choose (nat_lt told seconds_limit) refl
  where
    choose : (v : Bool) → nat_lt told seconds_limit ≡ v
        → unwrap_or (if v then Some told else None) n < seconds_limit
    choose true is = ltb-true told seconds_limit is
    choose false is = below

dated : (n : ℕ) → n < seconds_limit → is_date (micros n) ≡ true
dated n below = le-leb (n * 1_000_000) last_date (omega (arith, below))

added_in_time : (a : List Attribute) → added_seconds a < seconds_limit
added_in_time a = in_time (number_of (value (codes "add_date") a)) 0 (omega arith)

added_dated : (a : List Attribute) → is_date (added a) ≡ true
added_dated a = dated (added_seconds a) (added_in_time a)

modified_dated : (a : List Attribute) → is_date (modified a) ≡ true
modified_dated a =
    dated _
    (in_time (number_of (value (codes "last_modified") a)) (added_seconds a) (added_in_time a))

-- ---- nodes

folder_formed : (here : OpenList) (a : List Attribute) (title : List ℕ) → is_formed (folder here a title) ≡ true
folder_formed here a title =
    and_from _ _ (and_from _ _ (and_from _ _ (added_dated a) (modified_dated a)) refl) refl

bookmark_formed : (here : OpenList) (url : List ℕ) (a : List Attribute) (title : List ℕ)
    → is_formed (bookmark here url a title) ≡ true
bookmark_formed here url a title =
    and_from _ _ (and_from _ _ (and_from _ _ (added_dated a) (modified_dated a))
    (tags_named (value _ a))) (tags_once (value _ a))

abbrev is_made_formed : Made → Bool
is_made_formed Skipped = true
is_made_formed (Child root node) = is_formed node

abbrev are_formed : List Made → Bool
are_formed all = list_all is_made_formed all

both : (xs ys : List Made) → are_formed xs ≡ true → are_formed ys ≡ true → are_formed (xs ++ ys) ≡ true
both xs ys front behind = list_all-append is_made_formed xs ys ∙ and_from _ _ front behind

heading_formed : (root : Option Root) (here : OpenList) (a : List Attribute) (title : List ℕ)
    → are_formed (folder_unless root here a title) ≡ true
heading_formed None here a title = and_from _ _ (folder_formed here a title) refl
heading_formed (Some root) here a title = refl

link_formed : (url : Option (List ℕ)) (here : OpenList) (a : List Attribute) (title : List ℕ)
    → is_made_formed (bookmark_if url here a title) ≡ true
link_formed None here a title = refl
link_formed (Some url) here a title = bookmark_formed here url a title

made_formed : (here : OpenList) (pending : Option OpenList) (content : Content)
    → are_formed (made here pending content) ≡ true
made_formed here pending Nothing = refl
made_formed here pending (Inner inner behind) =
    both (made (unwrap_or pending here) None inner) (made here None behind)
    (made_formed (unwrap_or pending here) None inner) (made_formed here None behind)
made_formed here pending (Then (Heading a) more) =
    both (folder_unless (root_at here a) here a (title more)) (made here (Some (inside here a)) more)
    (heading_formed (root_at here a) here a (title more)) (made_formed here (Some (inside here a)) more)
made_formed here pending (Then (Link a) more) =
    and_from _ _ (link_formed (url a) here a (title more)) (made_formed here None more)
made_formed here pending (Then Rule more) = made_formed here None more
made_formed here pending (Then TitleEnd more) = made_formed here pending more
made_formed here pending (Then (Words text) more) = made_formed here pending more
made_formed here pending (Then Other more) = made_formed here pending more
made_formed here pending (Then ListStart more) = made_formed here pending more
made_formed here pending (Then ListEnd more) = made_formed here pending more

all_formed : (levels : List Content) → are_formed (made_of_all levels) ≡ true
all_formed [] = refl
all_formed (content ∷ outer) =
    both (made menu None content) (made_of_all outer) (made_formed menu None content) (all_formed outer)

in_root : (root : Root) (all : List Made) → are_formed all ≡ true → list_all is_formed (nodes_in root all) ≡ true
in_root root [] formed = refl
in_root root (Skipped ∷ all) formed = in_root root all formed
in_root root (Child other node ∷ all) formed =
    choose (is_same_root root other) (and_parts _ _ formed).0 (in_root root all (and_parts _ _ formed).1)
  where
    choose : (v : Bool) → is_formed node ≡ true → list_all is_formed (nodes_in root all) ≡ true
        → list_all is_formed (cons_option (if v then Some node else None) (nodes_in root all)) ≡ true
    choose true this rest = and_from _ _ this rest
    choose false this rest = rest

-- the nodes of each list are formed
pub nodes_formed : (root : Root) (levels : List Content)
    → list_all is_formed (nodes_in root (made_of_all levels)) ≡ true
nodes_formed root levels = in_root root (made_of_all levels) (all_formed levels)
