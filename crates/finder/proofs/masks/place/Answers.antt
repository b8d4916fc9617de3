-- `place` meets its contract. From the laws on ways.
use Rattle.finder.proofs.Meets.{put_place}
use Rattle.finder.proofs.masks.place.Goals as goal

pub returns : goal.returns
returns c = put_place c.args.c c.args.here c.requires
