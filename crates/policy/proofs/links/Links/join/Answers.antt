use Rattle.std.proofs.Common.{Bool, ℕ, List, set, take, ap, ◌∙◌, refl, length-set}
use Rattle.policy.specs.Fields.{blank}
use Rattle.policy.proofs.Fields.{field_kept, field_set}
use Rattle.policy.specs.declared.links.Link.{Link}
use Rattle.policy.proofs.links.Links.join.Goals as goal

pub returns : goal.returns
returns c =
    let newer = λ (l : Link). l.newer in
    let older = λ (l : Link). l.older in
    let linked = λ (l : Link). l.linked in
    record {
      newer = field_kept newer _ _ _ blank refl ∙ field_set newer _ _ _;
      older = field_set older _ _ _ ∙ ap (λ (os : List ℕ). set os c.args.newer c.args.older) (field_kept older _ _ _ blank refl);
      marks = ap (λ (ms : List Bool). take 512 ms) (field_kept linked _ _ _ blank refl ∙ field_kept linked _ _ _ blank refl);
      size = simp length-set c.requires.size;
    }
