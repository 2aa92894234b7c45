use Rattle.book_compare.proofs.PlaceLaws.{whole}
use Rattle.book_compare.proofs.positions.places_to_search.Goals as goal

pub returns : goal.returns
returns c =
    whole c.args.comparing.now.first.now c.args.comparing.now.second.now c.args.comparing.now.day c.new-places.result.items c.put_first.new.places.items c.put_added.new.places.items c.new-places.ensures.items
    c.in_ok-put_first.ensures c.in_ok-put_added.ensures
