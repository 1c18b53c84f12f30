-- The views of the pages that a walk has gone over.
use Rattle.std.proofs.Common.{◌++◌, List, [], ◌∷◌, map}
use Rattle.pl_base.specs.declared.view.View.{View}
use Rattle.pl_base.specs.Rows.{KeptPage}
use Rattle.pl_base.specs.Store.{Store}
use Rattle.pl_base.specs.View.{AreViews, IsViewOf}

abbrev pub HasViews : Store → List View → List KeptPage → Type 0
HasViews store views front = AreViews store (map (λ (p : KeptPage). p.page) front) views

pub one_more : (store : Store) (front : List KeptPage) (p : KeptPage) (views : List View) (view : View)
    → HasViews store views front → IsViewOf store p.page view
    → HasViews store (views ++ view ∷ []) (front ++ p ∷ [])
one_more store [] p [] view are is = (is, tt)
one_more store [] p (v ∷ vs) view are is = absurd are
one_more store (q ∷ front) p [] view are is = absurd are
one_more store (q ∷ front) p (v ∷ vs) view are is = (are.0, one_more store front p vs view are.1 is)
