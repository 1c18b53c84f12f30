-- The depths of the nodes that a file makes: the first of a list is a child of the root, and each may
-- stand behind the one before it.
use Rattle.std.proofs.Common.{◌≡◌, ◌≤◌, ◌==◌, ℕ, Bool, true, false, List, [], ◌∷◌}
use Rattle.std.proofs.Common.{◌++◌, arith, cond, refl, subst, sym}
use Rattle.std.proofs.Common.{Option, Some, None, if◌then◌else◌}
use Rattle.std.specs.List.{cons_option}
use Rattle.std.specs.Option.{unwrap_or}
use Rattle.std.proofs.lemmas.Bool.{and_parts, eqb-true}
use Rattle.std.proofs.lemmas.List.Elements.{filter_map-append}
use Rattle.pl_nbread.specs.declared.open_list.OpenList.{OpenList}
use Rattle.pl_nbread.specs.declared.open_list.Root.{Root}
use Rattle.pl_nbread.specs.declared.tree.Node.{Node}
use Rattle.pl_nbread.specs.BookmarkTree.{Content, Nothing, Then, Inner, Made, Child}
use Rattle.pl_nbread.specs.BookmarkTree.{below, bookmark, bookmark_if, folder_unless, inside}
use Rattle.pl_nbread.specs.BookmarkTree.{inside_of, is_menu, is_menu_root, is_same_root, made}
use Rattle.pl_nbread.specs.BookmarkTree.{made_of_all, menu, node_in, nodes_in, root_at, root_named}
use Rattle.pl_nbread.specs.BookmarkTree.{separator, title, url}
use Rattle.pl_nbread.specs.Parts.{Heading, Link, ListStart, ListEnd, Rule, TitleEnd, Words, Other}
use Rattle.pl_nbread.specs.Tokens.{Attribute}
use Rattle.pl_nbread.specs.WellFormed.{begins, goes_on}
use Rattle.pl_nbread.proofs.FittingDepths.{Stays, fits_begin, fits_go_on, stays_both, stays_none}

-- how deep nodes of this root's list are in an open list
abbrev depth_in : Root → OpenList → ℕ
depth_in root here = cond (is_same_root root here.root) here.depth 0

module _ (root : Root) where
  stays_made : (reach between depth : ℕ) (xs ys : List Made) → Stays reach between (nodes_in root xs)
      → ((n : ℕ) → between ≤ n → Stays n depth (nodes_in root ys)) → Stays reach depth (nodes_in root (xs ++ ys))
  stays_made reach between depth xs ys front behind =
      subst (Stays reach depth) (sym (filter_map-append (node_in root) xs ys))
      (stays_both reach between depth (nodes_in root xs) (nodes_in root ys) front behind)

  -- a node in an open list is made
  stays_child : (here : OpenList) (node : Node) → node.depth ≡ here.depth → (reach : ℕ) → depth_in root here ≤ reach
      → Stays reach (depth_in root here) (nodes_in root (Child here.root node ∷ []))
  stays_child here node is reach within = choose (is_same_root root here.root) within
    where
      choose : (v : Bool) → cond v here.depth 0 ≤ reach
          → Stays reach (cond v here.depth 0) (cons_option (if v then Some node else None) [])
      choose true within = record { fits = (omega arith, tt); leaves = omega arith }
      choose false within = stays_none reach 0 within

  stays_link : (url : Option (List ℕ)) (here : OpenList) (a : List Attribute) (title : List ℕ) (reach : ℕ)
      → depth_in root here ≤ reach
      → Stays reach (depth_in root here) (nodes_in root (bookmark_if url here a title ∷ []))
  stays_link None here a title reach within = stays_none reach (depth_in root here) within
  stays_link (Some url) here a title reach within =
      stays_child here (bookmark here url a title) refl reach within

  at_menu : (here : OpenList) → is_menu here ≡ true → depth_in root here ≡ 0
  at_menu here is = choose (is_same_root root here.root)
      (eqb-true here.depth 0 (and_parts (is_menu_root here.root) (here.depth == 0) is).1)
    where
      choose : (v : Bool) → here.depth ≡ 0 → cond v here.depth 0 ≡ 0
      choose true zero = zero
      choose false zero = refl

  -- what a heading leaves: its children may stand behind it
  pub record Opens (here inner : OpenList) (front : List Made) : Type 0 where
    pub stays : (reach : ℕ) → depth_in root here ≤ reach → Stays reach (depth_in root inner) (nodes_in root front)
    pub deeper : depth_in root here ≤ depth_in root inner

  opens_below : (here : OpenList) (a : List Attribute) (title : List ℕ)
      → Opens here (below here) (folder_unless None here a title)
  opens_below here a title = choose (is_same_root root here.root) refl
    where
      choose : (v : Bool) → is_same_root root here.root ≡ v → Opens here (below here) (folder_unless None here a title)
      choose true is = record {
        stays = λ reach within.
            let deep : here.depth ≤ reach = rw is at within in
            rw is (record { fits = (deep, tt); leaves = omega arith });
        deeper = rw is (omega arith);
      }
      choose false is = record {
        stays = λ reach within. rw is (record { fits = tt; leaves = omega arith });
        deeper = rw is (omega arith);
      }

  opens_root : (here : OpenList) (other : Root) → depth_in root here ≡ 0 → Opens here (inside_of here (Some other)) []
  opens_root here other zero = choose (is_same_root root other) refl
    where
      choose : (v : Bool) → is_same_root root other ≡ v → Opens here (inside_of here (Some other)) []
      choose true is = record {
        stays = λ reach within. rw is (record { fits = tt; leaves = omega arith });
        deeper = omega (arith, zero);
      }
      choose false is = record {
        stays = λ reach within. rw is (record { fits = tt; leaves = omega arith });
        deeper = omega (arith, zero);
      }

  opens : (here : OpenList) (a : List Attribute) (title : List ℕ)
      → Opens here (inside here a) (folder_unless (root_at here a) here a title)
  opens here a title = choose (is_menu here) refl
    where
      by_root : (o : Option Root) → depth_in root here ≡ 0
          → Opens here (inside_of here o) (folder_unless o here a title)
      by_root None zero = opens_below here a title
      by_root (Some other) zero = opens_root here other zero

      choose : (v : Bool) → is_menu here ≡ v
          → Opens here (inside_of here (if v then root_named a else None))
          (folder_unless (if v then root_named a else None) here a title)
      choose true is = by_root (root_named a) (at_menu here is)
      choose false is = opens_below here a title

  made_stays : (here : OpenList) (pending : Option OpenList) (content : Content) (reach : ℕ)
      → depth_in root here ≤ depth_in root (unwrap_or pending here)
      → depth_in root (unwrap_or pending here) ≤ reach
      → Stays reach (depth_in root here) (nodes_in root (made here pending content))
  made_stays here pending Nothing reach deeper within = stays_none reach (depth_in root here) (omega arith)
  made_stays here pending (Inner inner behind) reach deeper within =
      stays_made reach (depth_in root (unwrap_or pending here)) (depth_in root here)
      (made (unwrap_or pending here) None inner) (made here None behind)
      (made_stays (unwrap_or pending here) None inner reach (omega arith) within)
      (λ n past. made_stays here None behind n (omega arith) (omega arith))
  made_stays here pending (Then (Heading a) more) reach deeper within =
      let open_here : Opens here (inside here a) (folder_unless (root_at here a) here a (title more)) =
      opens here a (title more) in
      stays_made reach (depth_in root (inside here a)) (depth_in root here)
      (folder_unless (root_at here a) here a (title more)) (made here (Some (inside here a)) more)
      (open_here.stays reach (omega arith))
      (λ n past. made_stays here (Some (inside here a)) more n open_here.deeper past)
  made_stays here pending (Then (Link a) more) reach deeper within =
      stays_made reach (depth_in root here) (depth_in root here)
      (bookmark_if (url a) here a (title more) ∷ []) (made here None more)
      (stays_link (url a) here a (title more) reach (omega arith))
      (λ n past. made_stays here None more n (omega arith) past)
  made_stays here pending (Then Rule more) reach deeper within =
      stays_made reach (depth_in root here) (depth_in root here)
      (Child here.root (separator here) ∷ []) (made here None more)
      (stays_child here (separator here) refl reach (omega arith))
      (λ n past. made_stays here None more n (omega arith) past)
  made_stays here pending (Then TitleEnd more) reach deeper within = made_stays here pending more reach deeper within
  made_stays here pending (Then (Words text) more) reach deeper within =
      made_stays here pending more reach deeper within
  made_stays here pending (Then Other more) reach deeper within = made_stays here pending more reach deeper within
  made_stays here pending (Then ListStart more) reach deeper within = made_stays here pending more reach deeper within
  made_stays here pending (Then ListEnd more) reach deeper within = made_stays here pending more reach deeper within

  menu_first : (reach : ℕ) → depth_in root menu ≤ reach
  menu_first reach = choose (is_same_root root menu.root)
    where
      choose : (v : Bool) → cond v 0 0 ≤ reach
      choose true = omega arith
      choose false = omega arith

  all_stay : (levels : List Content) (reach : ℕ) → Stays reach 0 (nodes_in root (made_of_all levels))
  all_stay [] reach = stays_none reach 0 (omega arith)
  all_stay (content ∷ outer) reach =
      stays_made reach (depth_in root menu) 0 (made menu None content) (made_of_all outer)
      (made_stays menu None content reach (omega arith) (menu_first reach)) (λ n past. all_stay outer n)

  -- the first node of each list is a child of its root
  pub depths_begin : (levels : List Content) → begins (nodes_in root (made_of_all levels)) ≡ true
  depths_begin levels = fits_begin (nodes_in root (made_of_all levels)) (all_stay levels 0).fits

  -- each node of each list may stand behind the one before it
  pub depths_go_on : (levels : List Content) → goes_on (nodes_in root (made_of_all levels)) ≡ true
  depths_go_on levels = fits_go_on (nodes_in root (made_of_all levels)) (all_stay levels 0).fits
