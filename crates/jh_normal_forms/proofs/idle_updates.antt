pub mod Droppings
mod Arms
