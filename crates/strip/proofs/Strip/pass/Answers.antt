use Rattle.std.proofs.Common.{◌+◌, vec_items, vec_len, refl, sym, ◌∙◌}
use Rattle.strip.proofs.Cuts.{shrunk, some_left}
use Rattle.strip.proofs.Strip.pass.Goals as goal

pub returns-else-place-len : goal.returns-else-place-len
returns-else-place-len c =
    let s = c.args.self.now in
    let k = shrunk (vec_items s.held) s.first c.args.n s.front c.requires in
    record {
      lines = k.lines;
      size = refl;
      used = some_left (vec_items s.held) (s.first + c.args.n) (vec_len s.held) k.written k.front (λ e. c.if-place-len.false (e ∙ sym s.held.ok.0 ∙ sym c.len.ensures));
    }
