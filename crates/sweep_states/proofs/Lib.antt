mod Beginning
mod Distinct
mod Finishing
mod Turning
