-- The promises of this crate: each is a law of Meaning.antt.
use Rattle.whole.specs.Promises.{FloorIs, CeilingIs, MiddleIs, DownIs, UpIs, PowerIs}
use Rattle.whole.proofs.Meaning as meaning

pub floor_is : FloorIs
floor_is = meaning.floor_is

pub ceiling_is : CeilingIs
ceiling_is = meaning.ceiling_is

pub middle_is : MiddleIs
middle_is = meaning.middle_is

pub down_is : DownIs
down_is = meaning.down_is

pub up_is : UpIs
up_is = meaning.up_is

pub power_is : PowerIs
power_is = meaning.power_is
