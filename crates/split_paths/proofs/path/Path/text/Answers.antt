-- All numbers were written, since the loop went through those behind the first.
use Rattle.std.proofs.Common.{◌≡◌, ◌∙◌, ◌∷◌, sym}
use Rattle.split_paths.proofs.Texts.{text_whole}
use Rattle.split_paths.proofs.path.Path.text.Goals as goal

pub returns : goal.returns
returns c =
    let path_is : c.args.self.now ≡ c.in-Some.first.now ∷ c.in-Some.others.now =
    sym c.self.view_is ∙ (sym c.deref.ensures.value ∙ c.in-Some.ensures.cases.0)
    in
    text_whole _ _ _ c.in-Some.first.now c.in-Some.others.now c.loop-number.number-index path_is
    c.in_ok-text.ensures.ok c.loop-number-test.false c.loop-number.invariant
