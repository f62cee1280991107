use Rattle.std.proofs.Common.{◌<◌, length, get_or, sym, ap, ◌∙◌, subst, arith}
use Rattle.std.proofs.lemmas.List.{length-map, get_or-map}
use Rattle.cg_words.specs.Words.{IsFile}
use Rattle.cg_words.proofs.request.Request.sessions.Goals as goal

pub returns-clause-files : goal.returns-clause-files
returns-clause-files c = λ k d below.
    let inside = c.self.inside.sessions.items in
    let within : k < length inside = omega (arith, below, ap length c.as_slice.ensures.value) in
    subst IsFile (get_or-map (λ file. file.now) inside k d d.now within ∙ ap (λ xs. (get_or xs k d).now) (sym c.as_slice.ensures.value))
    (c.self.invariant.session_files k d.now (rw length-map within))
