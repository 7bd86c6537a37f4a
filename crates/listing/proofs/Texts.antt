-- The text of the line that lists a card.
use Rattle.std.proofs.Common.{◌≡◌, ◌-◌, ◌++◌, length, replicate, ap, ◌∙◌, arith}
use Rattle.columns.proofs.Fillings.{filled_behind}
use Rattle.columns.specs.Filling.{blank_filled}
use Rattle.devices.specs.declared.card.Card.{Card}
use Rattle.listing.specs.Listings.{listing_text}

pub text_filled : (c : Card) → length c.columns ≡ 80 → blank_filled 132 c.columns ≡ listing_text c
text_filled c h = filled_behind 132 c.columns (omega arith) ∙ ap (λ n. c.columns ++ replicate (132 - n) 32) h
