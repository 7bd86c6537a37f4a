use Rattle.std.proofs.Common.{◌≡◌, ◌∙◌, rules, arith}
use Rattle.listing.specs.Listings.{listing_text}
use Rattle.listing.proofs.Texts.{text_filled}
use Rattle.listing.proofs.listing.line_of.Goals as goal

pub returns : goal.returns
returns c =
    let e : c.blank_filled-text.result ≡ listing_text c.args.card.now = c.blank_filled-text.ensures ∙ text_filled c.args.card.now (omega arith) in
    search rules
