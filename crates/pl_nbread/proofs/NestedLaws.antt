-- What parts make by recursion on the nesting of lists is what they make with a stack of open
-- lists.
use Rattle.std.proofs.Common.{◌≡◌, ◌≢◌, ◌∙◌, ◌++◌, ℕ, List, [], ◌∷◌, Option, Some, None}
use Rattle.std.proofs.Common.{ap, append-nil, append_assoc, refl, sym}
use Rattle.std.specs.Prelude.{unwrap_or}
use Rattle.pl_nbread.specs.declared.open_list.OpenList.{OpenList}
use Rattle.pl_nbread.specs.BookmarkTree.{Content, Nothing, Made, Child}
use Rattle.pl_nbread.specs.BookmarkTree.{bookmark_if, enclosed, folder_unless, inside, levels, made}
use Rattle.pl_nbread.specs.BookmarkTree.{made_of, made_of_all, menu, put_front, root_at, separator}
use Rattle.pl_nbread.specs.BookmarkTree.{title, title_in, title_text, url}
use Rattle.pl_nbread.specs.Building.{made_within, title_ahead}
use Rattle.pl_nbread.specs.Parts.{Part, Heading, Link, ListStart, ListEnd, Rule, TitleEnd, Words}
use Rattle.pl_nbread.specs.Parts.{Other}
use Rattle.pl_nbread.specs.Tokens.{Attribute}

-- ---- what follows in the list that is open

abbrev first : List Content → Content
first [] = Nothing
first (content ∷ outer) = content

some_front : (part : Part) (all : List Content) → all ≢ [] → put_front part all ≢ []
some_front part [] some = some
some_front part (content ∷ outer) some = λ e. cc

some_enclosed : (all : List Content) → all ≢ [] → enclosed all ≢ []
some_enclosed [] some = some
some_enclosed (inner ∷ []) some = λ e. cc
some_enclosed (inner ∷ behind ∷ outer) some = λ e. cc

some_levels : (parts : List Part) → levels parts ≢ []
some_levels [] = λ e. cc
some_levels (ListStart ∷ parts) = some_enclosed (levels parts) (some_levels parts)
some_levels (ListEnd ∷ parts) = λ e. cc
some_levels (Heading attributes ∷ parts) =
    some_front (Heading attributes) (levels parts) (some_levels parts)
some_levels (Link attributes ∷ parts) = some_front (Link attributes) (levels parts) (some_levels parts)
some_levels (Rule ∷ parts) = some_front Rule (levels parts) (some_levels parts)
some_levels (TitleEnd ∷ parts) = some_front TitleEnd (levels parts) (some_levels parts)
some_levels (Words text ∷ parts) = some_front (Words text) (levels parts) (some_levels parts)
some_levels (Other ∷ parts) = some_front Other (levels parts) (some_levels parts)

-- ---- titles

ended_heading : (attributes : List Attribute) (all : List Content)
    → title_text (first (put_front (Heading attributes) all)) ≡ []
ended_heading attributes [] = refl
ended_heading attributes (content ∷ outer) = refl

ended_link : (attributes : List Attribute) (all : List Content)
    → title_text (first (put_front (Link attributes) all)) ≡ []
ended_link attributes [] = refl
ended_link attributes (content ∷ outer) = refl

ended_rule : (all : List Content) → title_text (first (put_front Rule all)) ≡ []
ended_rule [] = refl
ended_rule (content ∷ outer) = refl

ended_title : (all : List Content) → title_text (first (put_front TitleEnd all)) ≡ []
ended_title [] = refl
ended_title (content ∷ outer) = refl

ended_start : (all : List Content) → title_text (first (enclosed all)) ≡ []
ended_start [] = refl
ended_start (inner ∷ []) = refl
ended_start (inner ∷ behind ∷ outer) = refl

title_words : (text : List ℕ) (all : List Content) → all ≢ []
    → title_text (first (put_front (Words text) all)) ≡ text ++ title_text (first all)
title_words text [] some = absurd (some refl)
title_words text (content ∷ outer) some = refl

title_other : (all : List Content) → title_text (first (put_front Other all)) ≡ title_text (first all)
title_other [] = refl
title_other (content ∷ outer) = refl

-- the title of the list that is open is that of the parts
title_first : (parts : List Part) → title_text (first (levels parts)) ≡ title_ahead parts
title_first [] = refl
title_first (ListStart ∷ parts) = ended_start (levels parts)
title_first (ListEnd ∷ parts) = refl
title_first (Heading attributes ∷ parts) = ended_heading attributes (levels parts)
title_first (Link attributes ∷ parts) = ended_link attributes (levels parts)
title_first (Rule ∷ parts) = ended_rule (levels parts)
title_first (TitleEnd ∷ parts) = ended_title (levels parts)
title_first (Words text ∷ parts) =
    title_words text (levels parts) (some_levels parts) ∙ ap (λ (t : List ℕ). text ++ t) (title_first parts)
title_first (Other ∷ parts) = title_other (levels parts) ∙ title_first parts

-- ---- what is made

-- where no other list is open any more, the one at the bottom goes on
abbrev at_bottom : OpenList → List Content → List Made
at_bottom here [] = []
at_bottom here (content ∷ outer) = made here None content ++ at_bottom here outer

-- what stands behind the end of the list that is open here
abbrev around : OpenList → List OpenList → List Content → List Made
around here [] all = at_bottom here all
around here (next ∷ outer) [] = []
around here (next ∷ outer) (content ∷ all) = made next None content ++ around next outer all

abbrev joined : OpenList → List OpenList → Option OpenList → List Content → List Made
joined here outer pending [] = []
joined here outer pending (content ∷ all) = made here pending content ++ around here outer all

around_nil : (here : OpenList) (outer : List OpenList) → around here outer [] ≡ []
around_nil here [] = refl
around_nil here (next ∷ outer) = refl

at_start : (here : OpenList) (outer : List OpenList) (pending : Option OpenList) (all : List Content)
    → joined (unwrap_or pending here) (here ∷ outer) None all ≡ joined here outer pending (enclosed all)
at_start here outer pending [] = refl
at_start here outer pending (inner ∷ []) =
    let m : List Made = made (unwrap_or pending here) None inner in
    sym (rw (around_nil here outer) (append-nil (m ++ [])))
at_start here outer pending (inner ∷ behind ∷ all) =
    sym (append_assoc (made (unwrap_or pending here) None inner) (made here None behind) (around here outer all))

at_end : (here next : OpenList) (outer : List OpenList) (all : List Content)
    → joined next outer None all ≡ around here (next ∷ outer) all
at_end here next outer [] = refl
at_end here next outer (content ∷ all) = refl

at_last_end : (here : OpenList) (all : List Content) → joined here [] None all ≡ at_bottom here all
at_last_end here [] = refl
at_last_end here (content ∷ all) = refl

at_heading : (here : OpenList) (outer : List OpenList) (pending : Option OpenList) (attributes : List Attribute) (ahead : List ℕ)
    (all : List Content) → all ≢ [] → title_text (first all) ≡ ahead
    → folder_unless (root_at here attributes) here attributes (title_in ahead)
    ++ joined here outer (Some (inside here attributes)) all
    ≡ joined here outer pending (put_front (Heading attributes) all)
at_heading here outer pending attributes ahead [] some is = absurd (some refl)
at_heading here outer pending attributes ahead (content ∷ all) some is =
    rw (← is) (sym (append_assoc (folder_unless (root_at here attributes) here attributes (title content))
    (made here (Some (inside here attributes)) content) (around here outer all)))

at_link : (here : OpenList) (outer : List OpenList) (pending : Option OpenList) (attributes : List Attribute) (ahead : List ℕ)
    (all : List Content) → all ≢ [] → title_text (first all) ≡ ahead
    → bookmark_if (url attributes) here attributes (title_in ahead) ∷ joined here outer None all
    ≡ joined here outer pending (put_front (Link attributes) all)
at_link here outer pending attributes ahead [] some is = absurd (some refl)
at_link here outer pending attributes ahead (content ∷ all) some is = rw (← is) refl

at_rule : (here : OpenList) (outer : List OpenList) (pending : Option OpenList) (all : List Content) → all ≢ []
    → Child here.root (separator here) ∷ joined here outer None all ≡ joined here outer pending (put_front Rule all)
at_rule here outer pending [] some = absurd (some refl)
at_rule here outer pending (content ∷ all) some = refl

at_title_end : (here : OpenList) (outer : List OpenList) (pending : Option OpenList) (all : List Content)
    → joined here outer pending all ≡ joined here outer pending (put_front TitleEnd all)
at_title_end here outer pending [] = refl
at_title_end here outer pending (content ∷ all) = refl

at_words : (here : OpenList) (outer : List OpenList) (pending : Option OpenList) (text : List ℕ) (all : List Content)
    → joined here outer pending all ≡ joined here outer pending (put_front (Words text) all)
at_words here outer pending text [] = refl
at_words here outer pending text (content ∷ all) = refl

at_other : (here : OpenList) (outer : List OpenList) (pending : Option OpenList) (all : List Content)
    → joined here outer pending all ≡ joined here outer pending (put_front Other all)
at_other here outer pending [] = refl
at_other here outer pending (content ∷ all) = refl

within_joined : (here : OpenList) (outer : List OpenList) (pending : Option OpenList) (parts : List Part)
    → made_within here outer pending parts ≡ joined here outer pending (levels parts)
within_joined here outer pending [] = sym (around_nil here outer)
within_joined here outer pending (ListStart ∷ parts) =
    within_joined (unwrap_or pending here) (here ∷ outer) None parts ∙ at_start here outer pending (levels parts)
within_joined here [] pending (ListEnd ∷ parts) =
    within_joined here [] None parts ∙ at_last_end here (levels parts)
within_joined here (next ∷ outer) pending (ListEnd ∷ parts) =
    within_joined next outer None parts ∙ at_end here next outer (levels parts)
within_joined here outer pending (Heading attributes ∷ parts) =
    ap (λ (m : List Made). folder_unless (root_at here attributes) here attributes (title_in (title_ahead parts)) ++ m)
    (within_joined here outer (Some (inside here attributes)) parts)
    ∙ at_heading here outer pending attributes (title_ahead parts) (levels parts) (some_levels parts)
    (title_first parts)
within_joined here outer pending (Link attributes ∷ parts) =
    ap (λ (m : List Made). bookmark_if (url attributes) here attributes (title_in (title_ahead parts)) ∷ m)
    (within_joined here outer None parts)
    ∙ at_link here outer pending attributes (title_ahead parts) (levels parts) (some_levels parts) (title_first parts)
within_joined here outer pending (Rule ∷ parts) =
    ap (λ (m : List Made). Child here.root (separator here) ∷ m) (within_joined here outer None parts)
    ∙ at_rule here outer pending (levels parts) (some_levels parts)
within_joined here outer pending (TitleEnd ∷ parts) =
    within_joined here outer pending parts ∙ at_title_end here outer pending (levels parts)
within_joined here outer pending (Words text ∷ parts) =
    within_joined here outer pending parts ∙ at_words here outer pending text (levels parts)
within_joined here outer pending (Other ∷ parts) =
    within_joined here outer pending parts ∙ at_other here outer pending (levels parts)

-- ---- from the menu root on

from_menu : (all : List Content) → joined menu [] None all ≡ made_of_all all
from_menu [] = refl
from_menu (content ∷ all) = ap (λ (m : List Made). made menu None content ++ m) (bottom all)
  where
    bottom : (all : List Content) → at_bottom menu all ≡ made_of_all all
    bottom [] = refl
    bottom (content ∷ all) = ap (λ (m : List Made). made menu None content ++ m) (bottom all)

-- what parts make is what they make from the menu root on, with no list open
pub made_of_within : (parts : List Part) → made_of parts ≡ made_within menu [] None parts
made_of_within parts =
    sym (within_joined menu [] None parts ∙ from_menu (levels parts))
