use Rattle.std.proofs.Common.{refl, sym, ◌∙◌}
use Rattle.keys.proofs.Same.{same_triangle, same_steps}
use Rattle.keys.proofs.key.same_lists.Goals as goal

pub returns-then-eq : goal.returns-then-eq
returns-then-eq c =
    let corners = same_triangle c.args.a.triangle c.args.b.triangle c.if-eq.ensures in
    let told = c.eq-then-eq.ensures in
    let both = same_steps _ (λ _ _ _ _. refl) (λ _ _ _ _ _ _. refl) (λ _ _ _ _ _. refl) (λ _ _ _ _ _. refl) _ _ in
    ((λ h. (corners, both.0 (sym told ∙ h))), (λ e. told ∙ both.1 e.1))
