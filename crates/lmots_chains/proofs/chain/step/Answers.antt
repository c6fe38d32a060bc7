use Rattle.std.proofs.Common.{rules, get_or, Fits, w32}
use Rattle.octets.specs.Octets.{bytes}
use Rattle.rfc8554.specs.Ots.{chain_input}
use Rattle.lmots_chains.specs.ChainLaws.{compress-one-block}
use Rattle.lmots_chains.proofs.chain.step.Goals as goal

pub returns : goal.returns
returns c =
    let m = c.block-m.result in
    compress-one-block m c.initial_value-h.result c.compress.result
    (chain_input (bytes c.args.id) c.args.q c.args.i c.args.j (bytes c.args.tmp))
    (search rules) (λ i. let f : Fits w32 (get_or m i 0) = search rules in f.fits) c.initial_value-h.ensures c.block-m.ensures c.compress.ensures
