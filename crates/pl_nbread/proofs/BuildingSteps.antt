-- Laws of builders: a new one, how deep places are, and what stands at the front of a text.
use Rattle.std.proofs.Common.{◌≡◌, ◌∙◌, ◌≤◌, ◌+◌, ◌++◌, ℕ, List, [], ◌∷◌, Option, Some, None, Vec, String, Global}
use Rattle.std.proofs.Common.{ap, arith, map, refl, reverse, zero-add}
use Rattle.std.specs.Option.{IfSome, option_to_list}
use Rattle.std.specs.String.{string_bytes}
use Rattle.pl_base.proofs.ListLaws.{weaker}
use Rattle.pl_nbread.specs.declared.builder.Builder.{Builder}
use Rattle.pl_nbread.specs.declared.builder.Titled.{Titled}
use Rattle.pl_nbread.specs.declared.part.Part as seen
use Rattle.pl_nbread.specs.declared.open_list.OpenList.{OpenList}
use Rattle.pl_nbread.specs.declared.tree.Node.{Node}
use Rattle.pl_nbread.specs.BookmarkTree.{Made, made_of, menu, tree_with}
use Rattle.pl_nbread.specs.Building.{IsWithin, StaysAt, grown, made_within, titled, yields}
use Rattle.pl_nbread.specs.Parts.{Part, Other, part_of}
use Rattle.pl_nbread.specs.Scanned.{Sees, SeesFront}
use Rattle.pl_nbread.specs.Tokens.{Token}
use Rattle.pl_nbread.proofs.NestedLaws.{made_of_within}

-- a builder with nothing in it makes what parts make
pub yields_empty : (m t u o : Vec Node Global) (outer : Vec OpenList Global) (title : String Global) → m.items ≡ []
    → t.items ≡ [] → u.items ≡ [] → o.items ≡ [] → outer.items ≡ [] → (more : List Part)
    → yields
    (record {
      menu = m;
      toolbar = t;
      unfiled = u;
      mobile = o;
      skipped = 0;
      here = menu;
      outer = outer;
      pending = None;
      titled = None;
      title = title;
    }) more ≡ tree_with (made_of more)
yields_empty m t u o outer title no_menu no_toolbar no_unfiled no_mobile no_outer more =
    rw (no_menu, no_toolbar, no_unfiled, no_mobile, no_outer, zero-add, made_of_within more) refl

le_pending : (n m : ℕ) (pending : Option OpenList) → n ≤ m → IfSome pending (λ (p : OpenList). p.depth ≤ n)
    → IfSome pending (λ (p : OpenList). p.depth ≤ m)
le_pending n m None le all = tt
le_pending n m (Some p) le all = omega (arith, all)

-- what is within a limit is within a greater one
pub within_more : (n m : ℕ) (b : Builder) → n ≤ m → IsWithin n b → IsWithin m b
within_more n m b le within =
    record {
      skipped = omega (arith, within.skipped);
      here = omega (arith, within.here);
      outer = weaker _ _ b.outer.items (λ (p : OpenList) few. omega arith) within.outer;
      pending = le_pending n m b.pending le within.pending;
    }

-- what stays is within the same limit
pub within_stays : (n : ℕ) (before after : Builder) → StaysAt before after → IsWithin n before → IsWithin (n + 1) after
within_stays n before after stays within =
    within_more n (n + 1) after (omega arith)
    (record {
      skipped = rw stays.skipped within.skipped;
      here = rw stays.here within.here;
      outer = rw stays.outer within.outer;
      pending = rw stays.pending within.pending;
    })

titled_other : (node : Option Titled) (text : List ℕ) (more : List Part)
    → titled node text (Other ∷ more) ≡ titled node text more
titled_other None text more = refl
titled_other (Some node) text more = refl

-- a part that says nothing changes nothing
pub yields_other : (b : Builder) (more : List Part) → yields b (Other ∷ more) ≡ yields b more
yields_other b more =
    ap (λ (node : List Made). grown b (node ++ made_within b.here (reverse b.outer.items) b.pending more))
    (titled_other b.titled (string_bytes b.title) more)

-- what stands at the front of a text was taken
pub front_taken : (before after : Builder) (what : Option Token) (part : seen.Part) (more : List Part)
    → SeesFront what part
    → ((this : Part) → Sees this part → yields after more ≡ yields before (this ∷ more))
    → yields after more ≡ yields before (map part_of (option_to_list what) ++ more)
front_taken before after None part more sees takes = takes Other sees ∙ yields_other before more
front_taken before after (Some token) part more sees takes = takes (part_of token) sees
