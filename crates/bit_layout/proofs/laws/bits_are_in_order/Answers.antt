use Rattle.bit_layout.proofs.Finding.{bits_ascend, bit_stands, bit_once, plain_bits_follow, bits_as_places, place_is_place}
use Rattle.bit_layout.proofs.laws.bits_are_in_order.Goals as goal

pub returns-clause-ascending : goal.returns-clause-ascending
returns-clause-ascending c = bits_ascend

pub returns-clause-stands : goal.returns-clause-stands
returns-clause-stands c l v i ok within = bit_stands l v i ok.order within

pub returns-clause-once : goal.returns-clause-once
returns-clause-once c l v i bit ok stands = bit_once l v i bit ok.order stands

pub returns-clause-contiguous : goal.returns-clause-contiguous
returns-clause-contiguous c = plain_bits_follow

pub returns-clause-order : goal.returns-clause-order
returns-clause-order c = bits_as_places

pub returns-clause-within : goal.returns-clause-within
returns-clause-within c = place_is_place
