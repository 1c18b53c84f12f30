-- Lists of nodes by their depths: the first is a child of the root, and each may stand behind the one
-- before it.
use Rattle.std.proofs.Common.{◌≡◌, ◌∙◌, ◌≤◌, ◌+◌, ◌==◌, ◌&&◌, ◌||◌, ℕ, Bool, true, false, List, [], ◌∷◌}
use Rattle.std.proofs.Common.{◌++◌, arith, cond, nat_le, refl, subst, sym}
use Rattle.std.specs.Prelude.{⊤}
use Rattle.std.proofs.lemmas.Bool.{and_from, eq-eqb, le-leb, leb-false, true≢false}
use Rattle.pl_nbread.specs.declared.tree.Node.{Node}
use Rattle.pl_nbread.specs.WellFormed.{begins, goes_on, is_folder, may_follow}

-- no node behind this one is deeper
abbrev pub reach_of : Node → ℕ
reach_of node = node.depth + cond (is_folder node.kind) 1 0

-- each node may stand where it does, the first one no deeper than this
abbrev pub Fits : ℕ → List Node → Type 0
Fits reach [] = ⊤
Fits reach (node ∷ nodes) = (node.depth ≤ reach) × Fits (reach_of node) nodes

-- how deep a node may be behind these
abbrev pub reach_after : ℕ → List Node → ℕ
reach_after reach [] = reach
reach_after reach (node ∷ nodes) = reach_after (reach_of node) nodes

follows : (a b : Node) → b.depth ≤ reach_of a → may_follow a b ≡ true
follows a b within = choose (is_folder a.kind) within (nat_le b.depth a.depth) refl
  where
    choose : (f : Bool) → b.depth ≤ a.depth + cond f 1 0 → (v : Bool) → nat_le b.depth a.depth ≡ v
        → (v || f && b.depth == a.depth + 1) ≡ true
    choose f deep true is = refl
    choose true deep false is =
        let past : a.depth + 1 ≤ b.depth = omega (arith, leb-false b.depth a.depth is) in
        eq-eqb b.depth (a.depth + 1) (omega arith)
    choose false deep false is = absurd (true≢false (sym (le-leb b.depth a.depth (omega arith)) ∙ is))

fits_on : (a : Node) (nodes : List Node) → Fits (reach_of a) nodes → goes_on (a ∷ nodes) ≡ true
fits_on a [] fits = refl
fits_on a (b ∷ nodes) fits = and_from _ _ (follows a b fits.0) (fits_on b nodes fits.1)

pub fits_begin : (nodes : List Node) → Fits 0 nodes → begins nodes ≡ true
fits_begin [] fits = refl
fits_begin (node ∷ nodes) fits = eq-eqb node.depth 0 (omega (arith, fits.0))

pub fits_go_on : (nodes : List Node) → Fits 0 nodes → goes_on nodes ≡ true
fits_go_on [] fits = refl
fits_go_on (node ∷ nodes) fits = fits_on node nodes fits.1

-- nodes fit behind others, and a node at this depth may stand behind them
pub record Stays (reach depth : ℕ) (nodes : List Node) : Type 0 where
  pub fits : Fits reach nodes
  pub leaves : depth ≤ reach_after reach nodes

fits_both : (reach : ℕ) (xs ys : List Node) → Fits reach xs → Fits (reach_after reach xs) ys → Fits reach (xs ++ ys)
fits_both reach [] ys front behind = behind
fits_both reach (x ∷ xs) ys front behind = (front.0, fits_both (reach_of x) xs ys front.1 behind)

reach_both : (reach : ℕ) (xs ys : List Node)
    → reach_after reach (xs ++ ys) ≡ reach_after (reach_after reach xs) ys
reach_both reach [] ys = refl
reach_both reach (x ∷ xs) ys = reach_both (reach_of x) xs ys

pub stays_none : (reach depth : ℕ) → depth ≤ reach → Stays reach depth []
stays_none reach depth within = record { fits = tt; leaves = within }

-- one list behind another
pub stays_both : (reach between depth : ℕ) (xs ys : List Node) → Stays reach between xs
    → ((n : ℕ) → between ≤ n → Stays n depth ys) → Stays reach depth (xs ++ ys)
stays_both reach between depth xs ys front behind = record {
  fits = fits_both reach xs ys front.fits (behind _ front.leaves).fits;
  leaves = subst (λ (n : ℕ). depth ≤ n) (sym (reach_both reach xs ys)) (behind _ front.leaves).leaves;
}
